-- A record as it is read: how it begins and how it ends, where its fields stand among the bytes that are kept, and what tells the separator of
-- a sheet. Definitions only.
use Rattle.std.specs.Prelude.{Bool, true, false, List, [], ◌∷◌, ℕ, zero, suc, ◌+◌, ◌-◌, eqb, ltb, get_or, length, take, drop}
use Rattle.separated.specs.declared.machine.Mode.{Mode}
use Rattle.separated.specs.declared.machine.Mode.TheVariants.{Before, Bare, Quoted, Closed, Returned, Lost}
use Rattle.separated.specs.declared.records.Scan.{Scan}

-- ---- the fields of a record that is kept, by the places where they end

abbrev pub begins : List ℕ → ℕ → ℕ
begins ends zero = 0
begins ends (suc i) = get_or ends i 0

abbrev pub unless : Bool → List ℕ → List ℕ
unless true w = []
unless false w = w

-- the bytes from a place up to another; none, where those are no places of the bytes
abbrev pub between_places : List ℕ → ℕ → ℕ → List ℕ
between_places kept from to = unless (ltb (length kept) to) (take (to - from) (drop from kept))

abbrev pub field_of : List ℕ → List ℕ → ℕ → List ℕ
field_of kept ends i = between_places kept (begins ends i) (get_or ends i 0)

-- ---- a record begins, and it ends

abbrev pub begun : ℕ → Scan
begun lines = record { mode = Before; n = 0; fields = 0; began = false; done = false; fault = 0; wrong = 0; lines = lines }

abbrev pub pick : Bool → Scan → Scan → Scan
pick true a b = a
pick false a b = b

abbrev pub with_fault : ℕ → ℕ → Scan → Scan
with_fault fault field s = record { mode = s.mode; n = s.n; fields = s.fields; began = s.began; done = s.done; fault = fault; wrong = field; lines = s.lines }

abbrev pub with_fields : ℕ → Scan → Scan
with_fields k s = record { mode = s.mode; n = s.n; fields = k; began = s.began; done = s.done; fault = s.fault; wrong = s.wrong; lines = s.lines }

abbrev pub done_with : Scan → Scan
done_with s = record { mode = s.mode; n = s.n; fields = s.fields; began = s.began; done = true; fault = s.fault; wrong = s.wrong; lines = s.lines }

-- the first thing that is wrong counts, with the field in which it is
abbrev pub spoilt_by : ℕ → Scan → Scan
spoilt_by fault s = pick (eqb s.fault 0) (with_fault fault s.fields s) s

-- a field ends here, where there is room for it among so many; a field too many is fault 6
abbrev pub field_ended : ℕ → Scan → Scan
field_ended room s = pick (ltb s.fields room) (with_fields (s.fields + 1) s) (spoilt_by 6 s)

abbrev pub record_ended : ℕ → Scan → Scan
record_ended room s = done_with (field_ended room s)

-- at the end of the input a quote is open (fault 4), or the newline behind a carriage return is missing (fault 3), or all is well
abbrev pub cut_off : Mode → Scan → Scan
cut_off Before s = s
cut_off Bare s = s
cut_off Quoted s = spoilt_by 4 s
cut_off Closed s = s
cut_off Returned s = spoilt_by 3 s
cut_off Lost s = s

abbrev pub finished : ℕ → Scan → Scan
finished room s = record_ended room (cut_off s.mode s)

-- ---- the separator: a tab, if one stands outside quotes before the first newline there, else a comma

abbrev pub turned : Bool → Bool → Bool
turned true true = false
turned true false = true
turned false inside = inside

abbrev pub chosen : Bool → ℕ → ℕ → ℕ
chosen true a b = a
chosen false a b = b

abbrev pub told : Bool → ℕ → ℕ
told true b = 0
told false b = chosen (eqb b 9) 9 (chosen (eqb b 10) 44 0)

abbrev pub or_later : ℕ → ℕ → ℕ
or_later t later = chosen (eqb t 0) later t

unfoldable pub told_from : Bool → List ℕ → ℕ
told_from inside [] = 44
told_from inside (b ∷ w) = or_later (told (turned (eqb b 34) inside) b) (told_from (turned (eqb b 34) inside) w)
