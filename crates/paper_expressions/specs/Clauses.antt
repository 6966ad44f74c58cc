-- The clauses of sections 9 and 11 by name: §9·6-2 is section 9.6, clause 2. Definitions only.
-- A letter counts the parts of one printed clause, be they printed or split by document 01.
-- A name is an index of the relation that its clause belongs to, so that "exactly one fits" counts clauses.

pub data Clause : Type 0 where
  -- 9.1, 9.2, 9.5, 9.6, 9.7      (left out: 9.1, 5 and 6, result_of and netsupport; 9.2, 1 and 9.5, 1, parameters)
  §9·1-1a §9·1-1b §9·1-2a §9·1-2b §9·1-3 §9·1-4 §9·1-7 §9·1-8 §9·1-9 : Clause
  §9·2-2 §9·2-3 : Clause
  §9·5-2 §9·5-3 : Clause
  §9·6-1 §9·6-2 §9·6-3 : Clause
  §9·7-1 §9·7-2 §9·7-3 : Clause
  -- 11.1      (left out: 11.1.5, "#")
  §11·1·1-1a §11·1·1-1b §11·1·1-1c §11·1·1-1d §11·1·1-2 : Clause
  §11·1·2-1a §11·1·2-1b §11·1·2-1c §11·1·2-2 : Clause
  §11·1·3-1 §11·1·3-2a §11·1·3-2b §11·1·3-2c §11·1·3-3a §11·1·3-3b §11·1·3-3c : Clause
  §11·1·3-4a §11·1·3-4b §11·1·3-4c §11·1·3-5 §11·1·3-6 §11·1·3-7 : Clause
  -- 11.1.4: 1 and 2 of "and", 3 and 4 of "or"
  §11·1·4-1 §11·1·4-2 §11·1·4-3 §11·1·4-4 : Clause
  §11·1·6-1 §11·1·6-2 : Clause
  -- 11.2      (left out: 11.2.11 to 11.2.24)
  §11·2·1-1 §11·2·1-2 §11·2·1-3 : Clause
  §11·2·2-1a §11·2·2-1b §11·2·2-2 : Clause
  §11·2·3-1 §11·2·3-2 : Clause
  §11·2·4-1 §11·2·4-2 : Clause
  §11·2·5-1 §11·2·5-2 §11·2·5-3 : Clause
  §11·2·6-1a §11·2·6-1b §11·2·6-1c §11·2·6-1d §11·2·6-2 §11·2·6-3 : Clause
  §11·2·7-1 §11·2·7-2 : Clause
  §11·2·8-1 §11·2·8-2 : Clause
  §11·2·9-1 §11·2·9-2 : Clause
  -- 11.2.10 counts behind its "Let"; 2 and 3 are the halves of "Otherwise"
  §11·2·10-1 §11·2·10-2 §11·2·10-3 : Clause
