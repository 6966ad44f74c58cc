-- Each turn, by what it passes: where the next one stands, and what its row says. By the tokens that stand in the columns.
use Rattle.std.specs.Prelude.{ℕ, ◌+◌, ◌*◌, ◌≤◌, ◌<◌, ◌≡◌, refl, Bool, true, false, cond, List, [], ◌∷◌, eqb, get_or, length, Option as Maybe, None, Some}
use Rattle.std.proofs.Common.{sym, ap, subst, ◌∙◌, ⊎_elim, inl, inr, arith, ne_eqb}
use Rattle.std.proofs.Math.Option.{none, some}
use Rattle.paper_expressions.proofs.Laws.Tests.{contra}
use Rattle.paper_expressions.proofs.Laws.Parentheses.{bare}
use Rattle.paper_expressions.specs.Expressions.{Expr}
use Rattle.paper_expressions.specs.Limits.{list_limit}
use Rattle.paper_guideline.specs.Limits.{guideline_limit, token_limit, part_limit, depth_limit, depth, longest_list}
use Rattle.paper_tokens.specs.Tokens
use Tokens.{“plan”, “action”, “enquiry”, “data”, “caption”, “description”, “precondition”, “wait-condition”, “postcondition”, “trigger”, “terminate”, “component”, “source”, “schedule-constraint”, “terminal”, “mandatory”}
use Rattle.paper_grammar.proofs.Laws.Ll.{is_in}
use Rattle.paper_tokens.specs.Lexical.{Token, atom}
use Rattle.paper_guideline.specs.Tree.{anywhere, assigned}
use Rattle.paper_guideline.specs.Structure.{Outermost}
use Rattle.paper_tokens.proofs.Laws.TerminalLaws.{terminal_is}
use Rattle.parts.specs.Part.{table, size, Holds}
use Rattle.leaves.specs.Source.{Source, Stand}
use Rattle.expression_steps.specs.declared.Built.{Built}
use Rattle.expression_steps.specs.Rows.{beside_none, beside_more}
use Rattle.expression_steps.specs.Levels.{kind_at, stand_kind, stand_length}
use Rattle.expression_steps.specs.StepLaws.{stand_here, stand_next}
use Rattle.expression_steps.specs.Made as Steps
use Rattle.expression_reader.specs.Reads.{Whole, Reads, parts_size}
use Rattle.guideline_rows.specs.Rows.{named, Row}
use Rattle.guideline_rows.specs.Tally.{Large, LargeAt, here, later}
use Rattle.guideline_rows.specs.Flat
use Flat.{Mode, front, behind, Shape, shape, lines, shape_outside, Turn}
use Flat.{task_line, data_lines, expression_line, name_line, answer_line, constraint_line, postcondition_word, end_line, opening, assignment_there, closing, going_on, finish}
use Flat.{a_task_line, some_data_lines, an_expression_line, a_name_line, an_answer_line, a_constraint_line, a_postcondition_word, an_end_line, opens, assigns, closes, goes_on, finishes}
use Rattle.guideline_rows.specs.FlatLaws.{line_ends}
use Rattle.guideline_rows.specs.Flags.{Spelt, Answers, Declares}
use Rattle.guideline_rows.specs.Brackets.{two_fine}
use Rattle.guideline_turns.specs.declared.Mode.TheVariants.{Row as AtRow, Before, Behind}
use Rattle.guideline_turns.specs.declared.Passed.{Passed}
use Rattle.guideline_turns.specs.Made.{NameAt, Sound, Sized, IsLarge, Gives, Fair, Went, Passes, Steps, Plain, letter, mode_of, onto, parts_then}

-- ---- what is passed

-- without an expression no part changes
pub plain_went : {p u : ℕ} (k : List ℕ) (t : Passed) → p ≤ token_limit → p < t.next → parts_then u t.row ≡ u → u ≤ p → Went k k p u t
plain_went {p} {u} k t l h e g = record { near = l; on = h; few = omega arith; more = omega arith; beside = beside_none _ _ k }

-- with one: its parts are those of the reader
pub read_went : {k l : List ℕ} {p u : ℕ} {e : Built} (t : Passed) → p ≤ token_limit → u ≤ p → Steps.Went k l (p + 2) u e → parts_then u t.row ≡ e.used → e.next ≤ t.next → Went k l p u t
read_went {u = u} {e = e} t l g h q n =
    let o = h.on in
    let f = h.few in
    let m = h.more in
    record { near = l; on = omega arith; few = omega arith; more = omega arith; beside = beside_more _ _ _ (omega arith) h.beside }

none_sized : (s : ℕ) → Sized none false s
none_sized s = record { some = λ e. contra e; met = λ q. elim [ ] }

-- the measures of the expression tell whether it is past a limit
one_large : {x : Outermost} {q : ℕ} → LargeAt (x ∷ []) q → Large x.tree × (x.start ≡ q)
one_large (here h) = (h, refl)
one_large (later h) = elim h [ ]

module _ {x : Outermost} {d n s : ℕ} (ed : d ≡ depth x.tree) (en : n ≡ longest_list x.tree) (es : s ≡ x.start) where
  sized : (b : Bool) → IsLarge d n b → Sized (some x) b s
  sized true h = record {
    some = λ e. subst (LargeAt (x ∷ [])) (sym es) (here (⊎_elim (λ (a : depth_limit < d). inl (omega arith)) (λ (a : list_limit < n). inr (omega arith)) h));
    met = λ q g. (refl, es ∙ (one_large g).1);
  }
  sized false h = record {
    some = λ e. contra e;
    met = λ q g. let a = h.0 in let b = h.1 in ⊎_elim (λ (i : depth_limit < depth x.tree). absurd (omega arith)) (λ (i : list_limit < longest_list x.tree). absurd (omega arith)) (one_large g).0;
  }

-- ---- tokens in the columns

moved : {c : Source} {i j : ℕ} {w : List Token} → i ≡ j → Stand c i w → Stand c j w
moved {c} {w = w} e s = subst (λ (k : ℕ). Stand c k w) e s

two_on : {c : Source} {p : ℕ} {a b : Token} {w : List Token} → Stand c p (a ∷ b ∷ w) → Stand c (p + 2) w
two_on s = moved (omega arith) (stand_next (stand_next s))

three_on : {c : Source} {p : ℕ} {a b d : Token} {w : List Token} → Stand c p (a ∷ b ∷ d ∷ w) → Stand c (p + 3) w
three_on s = moved (omega arith) (stand_next (two_on s))

four_on : {c : Source} {p : ℕ} {a b d e : Token} {w : List Token} → Stand c p (a ∷ b ∷ d ∷ e ∷ w) → Stand c (p + 4) w
four_on s = moved (omega arith) (two_on (two_on s))

name_at : {c : Source} {j : ℕ} {n : Token} {w : List Token} (q : ℕ) → Stand c j (n ∷ w) → n.rule ≡ atom → q ≡ get_or c.places j 0 → NameAt c (Some (record { token = j; place = q })) (some (named n))
name_at {n = n} q s a e = let h = stand_here s in (record { token = n; here = h; atom = a; is = refl }, e ∙ sym h.place)

spelt : {c : Source} {j : ℕ} {n : Token} {w : List Token} → Stand c j (n ∷ w) → Spelt c.text c.places c.lengths j n
spelt s = let h = stand_here s in record { bytes = h.bytes; within = h.within }

-- a place is within the text
low_place : {c : Source} {p : ℕ} {t : Token} {w : List Token} (q : ℕ) → Fair c p (t ∷ w) → q ≡ get_or c.places p 0 → q ≤ guideline_limit
low_place q f e = let h = (stand_here f.stand).within in let l = f.short in omega arith

-- so is where an expression starts
there_low : {c : Source} {p : ℕ} {t : Token} {w : List Token} (q : ℕ) → Stand c p (t ∷ w) → length c.text ≤ guideline_limit → q ≡ get_or c.places p 0 → q ≤ guideline_limit
there_low q s l e = let h = (stand_here s).within in omega arith

word_at : {c : Source} {p : ℕ} {t : Token} {w : List Token} {q : ℕ} → Stand c p (t ∷ w) → q ≡ get_or c.places p 0 → q ≡ t.place
word_at s e = e ∙ sym (stand_here s).place

-- ---- turns with a row, and no expression

module _ {c : Source} {p u : ℕ} {k : List ℕ} where
  pub task_gives : {w r : List Token} {m : Mode} {rs : List Row} → Fair c p w → (n q : ℕ) → n ≡ kind_at c.kinds p → q ≡ get_or c.places (p + 2) 0 → Turn task_line w r m rs
      → Gives c k k u (record { next = p + 4; mode = AtRow; row = Some (record { kind = n; word = 0; name = Some (record { token = p + 2; place = q }); expression = None; flag = 0 }) }) m r rs
  task_gives f n q a b (a_task_line h i) = record {
    stand = four_on f.stand;
    mode = refl;
    rows = record {
      kind = a ∙ stand_kind f.stand ∙ terminal_is h;
      word = refl;
      low = omega arith;
      name = name_at q (two_on f.stand) i b;
      alike = tt;
      first = refl;
      end = refl;
      start = refl;
      near = omega arith;
      sized = none_sized 0;
      held = λ s g h. tt;
      flag = refl;
    };
  }

  pub data_gives : {w r : List Token} {m : Mode} {rs : List Row} → Fair c p w → (q d : ℕ) → q ≡ get_or c.places (p + 2) 0 → Declares c.text c.places c.lengths (p + 6) d → Turn data_lines w r m rs
      → Gives c k k u (record { next = p + 8; mode = AtRow; row = Some (record { kind = 18; word = 0; name = Some (record { token = p + 2; place = q }); expression = None; flag = d }) }) m r rs
  data_gives f q d b e (some_data_lines {k = t} {x = x} i y) = record {
    stand = moved (omega arith) (four_on (four_on f.stand));
    mode = refl;
    rows = record {
      kind = refl;
      word = refl;
      low = omega arith;
      name = name_at q (two_on f.stand) i b;
      alike = tt;
      first = refl;
      end = refl;
      start = refl;
      near = omega arith;
      sized = none_sized 0;
      held = λ s g h. tt;
      flag = e t x (spelt (moved (omega arith) (two_on (four_on f.stand)))) y;
    };
  }

  pub name_gives : {w r : List Token} {m : Mode} {rs : List Row} → Fair c p w → (n o q : ℕ) → n ≡ kind_at c.kinds p → o ≡ get_or c.places p 0 → q ≡ get_or c.places (p + 2) 0 → Turn name_line w r m rs
      → Gives c k k u (record { next = p + 4; mode = AtRow; row = Some (record { kind = n; word = o; name = Some (record { token = p + 2; place = q }); expression = None; flag = 0 }) }) m r rs
  name_gives f n o q a v b (a_name_line h i) = record {
    stand = four_on f.stand;
    mode = refl;
    rows = record {
      kind = a ∙ stand_kind f.stand ∙ terminal_is h;
      word = word_at f.stand v;
      low = low_place o f v;
      name = name_at q (two_on f.stand) i b;
      alike = tt;
      first = refl;
      end = refl;
      start = refl;
      near = omega arith;
      sized = none_sized 0;
      held = λ s g h. tt;
      flag = refl;
    };
  }

  pub answer_gives : {w r : List Token} {m : Mode} {rs : List Row} → Fair c p w → (n o d : ℕ) → n ≡ kind_at c.kinds p → o ≡ get_or c.places p 0 → Answers c.text c.places c.lengths (p + 2) d → Turn answer_line w r m rs
      → Gives c k k u (record { next = p + 4; mode = AtRow; row = Some (record { kind = n; word = o; name = None; expression = None; flag = d }) }) m r rs
  answer_gives f n o d a v e (an_answer_line {y = y} {b = b} h z) = record {
    stand = four_on f.stand;
    mode = refl;
    rows = record {
      kind = a ∙ stand_kind f.stand ∙ terminal_is h;
      word = word_at f.stand v;
      low = low_place o f v;
      name = tt;
      alike = tt;
      first = refl;
      end = refl;
      start = refl;
      near = omega arith;
      sized = none_sized 0;
      held = λ s g h. tt;
      flag = e y b (spelt (two_on f.stand)) z;
    };
  }

  pub constraint_gives : {w r : List Token} {m : Mode} {rs : List Row} → Fair c p w → (o q : ℕ) → o ≡ get_or c.places p 0 → q ≡ get_or c.places (p + 4) 0 → Turn constraint_line w r m rs
      → Gives c k k u (record { next = p + 7; mode = AtRow; row = Some (record { kind = 57; word = o; name = Some (record { token = p + 4; place = q }); expression = None; flag = 0 }) }) m r rs
  constraint_gives f o q v b (a_constraint_line i) = record {
    stand = moved (omega arith) (three_on (four_on f.stand));
    mode = refl;
    rows = record {
      kind = refl;
      word = word_at f.stand v;
      low = low_place o f v;
      name = name_at q (four_on f.stand) i b;
      alike = tt;
      first = refl;
      end = refl;
      start = refl;
      near = omega arith;
      sized = none_sized 0;
      held = λ s g h. tt;
      flag = refl;
    };
  }

  pub postcondition_gives : {w r : List Token} {m : Mode} {rs : List Row} → Fair c p w → (o : ℕ) → o ≡ get_or c.places p 0 → Turn postcondition_word w r m rs
      → Gives c k k u (record { next = p + 2; mode = Before; row = Some (record { kind = 50; word = o; name = None; expression = None; flag = 0 }) }) m r rs
  postcondition_gives f o v a_postcondition_word = record {
    stand = two_on f.stand;
    mode = refl;
    rows = record {
      kind = refl;
      word = word_at f.stand v;
      low = low_place o f v;
      name = tt;
      alike = tt;
      first = refl;
      end = refl;
      start = refl;
      near = omega arith;
      sized = none_sized 0;
      held = λ s g h. tt;
      flag = refl;
    };
  }

-- ---- with an expression, that is read

module _ {c : Source} {k l : List ℕ} {u : ℕ} {e : Built} where
  -- what is read
  held_there : {r : List Token} {y : Expr} → Whole c k l u r y e → Sound c → u + size y ≤ part_limit → (u + size y) * 4 ≤ length k → Holds (table l c.text) u (bare y)
  held_there {y = y} w s f g = let z = parts_size y in w.held (λ i t h n. s.clean i t h (omega arith)) s.short (omega arith) (omega arith)

  used_there : {r : List Token} {y : Expr} → Whole c k l u r y e → e.used ≡ u + size y
  used_there {y = y} w = let z = parts_size y in let h = w.used in omega arith

module _ {c : Source} {k l : List ℕ} {p u : ℕ} {e : Built} where
  pub expression_read : {w r : List Token} {m : Mode} {rs : List Row} → Fair c p w → Reads anywhere c k l (p + 2) u e → Turn expression_line w r m rs → (e.ok ≡ true) × (e.next < length c.kinds)
  expression_read f x (an_expression_line {x = t} {s = s} {w = v} {r = r} {e = y} h o z i) =
      let g = two_fine f.stand f.fine in
      let d = x.done g.count (t ∷ v) (s ∷ r) y (two_on f.stand) z (line_ends r i) g.all in
      (d.ok, (stand_here d.stand).inside)

  pub expression_gives : {w r : List Token} {m : Mode} {rs : List Row} → Fair c p w → (n o q : ℕ) (b : Bool) → n ≡ kind_at c.kinds p → o ≡ get_or c.places p 0 → q ≡ get_or c.places (p + 2) 0
      → Reads anywhere c k l (p + 2) u e → IsLarge e.depth e.longest b → Turn expression_line w r m rs
      → Gives c k l u (record { next = e.next + 1; mode = AtRow; row = Some (record { kind = n; word = o; name = None; expression = Some (record { first = u; end = e.used; start = q; large = b }); flag = 0 }) }) m r rs
  expression_gives f n o q b a v j x lg (an_expression_line {x = t} {s = s} {w = w} {r = r} {e = y} h i z sc) =
      let g = two_fine f.stand f.fine in
      let d = x.done g.count (t ∷ w) (s ∷ r) y (two_on f.stand) z (line_ends r sc) g.all in
      record {
        stand = stand_next d.stand;
        mode = refl;
        rows = record {
          kind = a ∙ stand_kind f.stand ∙ terminal_is h;
          word = word_at f.stand v;
          low = low_place o f v;
          name = tt;
          alike = tt;
          first = refl;
          end = used_there d;
          start = word_at (two_on f.stand) j;
          near = there_low q (two_on f.stand) f.short j;
          sized = sized d.depth d.longest (word_at (two_on f.stand) j) b lg;
          held = held_there d;
          flag = refl;
        };
      }

  pub assignment_read : {w r : List Token} {m : Mode} {rs : List Row} → Fair c p w → Reads assigned c k l (p + 2) u e → Turn assignment_there w r m rs → e.ok ≡ true
  assignment_read f x (assigns {x = t} {w = v} {r = r} {e = y} h z i) =
      let g = two_fine f.stand f.fine in
      (x.done g.count (t ∷ v) r y (two_on f.stand) z i g.all).ok

  pub assignment_gives : {w r : List Token} {m : Mode} {rs : List Row} → Fair c p w → (o q : ℕ) (b : Bool) → o ≡ get_or c.places p 0 → q ≡ get_or c.places (p + 2) 0
      → Reads assigned c k l (p + 2) u e → IsLarge e.depth e.longest b → Turn assignment_there w r m rs
      → Gives c k l u (record { next = e.next; mode = Behind; row = Some (record { kind = 81; word = 0; name = Some (record { token = p; place = o }); expression = Some (record { first = u; end = e.used; start = q; large = b }); flag = 0 }) }) m r rs
  assignment_gives f o q b v j x lg (assigns {x = t} {w = w} {r = r} {e = y} h z i) =
      let g = two_fine f.stand f.fine in
      let d = x.done g.count (t ∷ w) r y (two_on f.stand) z i g.all in
      record {
        stand = d.stand;
        mode = refl;
        rows = record {
          kind = refl;
          word = refl;
          low = omega arith;
          name = name_at o f.stand h v;
          alike = tt;
          first = refl;
          end = used_there d;
          start = word_at (two_on f.stand) j;
          near = there_low q (two_on f.stand) f.short j;
          sized = sized d.depth d.longest (word_at (two_on f.stand) j) b lg;
          held = held_there d;
          flag = refl;
        };
      }

-- ---- turns with none

module _ {c : Source} {p : ℕ} (near : p ≤ token_limit) where
  end_gives : {k : List ℕ} {u : ℕ} {w r : List Token} {m : Mode} {rs : List Row} → Fair c p w → Turn end_line w r m rs → Gives c k k u (onto (p + 3) AtRow) m r rs
  end_gives f an_end_line = record { stand = three_on f.stand; mode = refl; rows = tt }

  pub end_passes : Plain end_line c p (onto (p + 3) AtRow)
  end_passes k u h = record { onward = plain_went k (onto (p + 3) AtRow) near (omega arith) refl h; done = λ w r m rs f x. end_gives f x }

  opening_gives : {k : List ℕ} {u : ℕ} {w r : List Token} {m : Mode} {rs : List Row} → Fair c p w → Turn opening w r m rs → Gives c k k u (onto (p + 1) Before) m r rs
  opening_gives f opens = record { stand = stand_next f.stand; mode = refl; rows = tt }

  pub opening_passes : Plain opening c p (onto (p + 1) Before)
  opening_passes k u h = record { onward = plain_went k (onto (p + 1) Before) near (omega arith) refl h; done = λ w r m rs f x. opening_gives f x }

  closing_gives : {k : List ℕ} {u : ℕ} {w r : List Token} {m : Mode} {rs : List Row} → Fair c p w → Turn closing w r m rs → Gives c k k u (onto (p + 1) Behind) m r rs
  closing_gives f closes = record { stand = stand_next f.stand; mode = refl; rows = tt }

  pub closing_passes : Plain closing c p (onto (p + 1) Behind)
  closing_passes k u h = record { onward = plain_went k (onto (p + 1) Behind) near (omega arith) refl h; done = λ w r m rs f x. closing_gives f x }

  going_on_gives : {k : List ℕ} {u : ℕ} {w r : List Token} {m : Mode} {rs : List Row} → Fair c p w → Turn going_on w r m rs → Gives c k k u (onto (p + 1) Before) m r rs
  going_on_gives f goes_on = record { stand = stand_next f.stand; mode = refl; rows = tt }

  pub going_on_passes : Plain going_on c p (onto (p + 1) Before)
  going_on_passes k u h = record { onward = plain_went k (onto (p + 1) Before) near (omega arith) refl h; done = λ w r m rs f x. going_on_gives f x }

  finish_gives : {k : List ℕ} {u : ℕ} {w r : List Token} {m : Mode} {rs : List Row} → Fair c p w → Turn finish w r m rs → Gives c k k u (onto (p + 1) AtRow) m r rs
  finish_gives f finishes = record { stand = stand_next f.stand; mode = refl; rows = tt }

  pub finish_passes : Plain finish c p (onto (p + 1) AtRow)
  finish_passes k u h = record { onward = plain_went k (onto (p + 1) AtRow) near (omega arith) refl h; done = λ w r m rs f x. finish_gives f x }

-- ---- turns by their first token

module _ {c : Source} {p : ℕ} where
  pub by_kind : {k l : List ℕ} {u : ℕ} {t : Maybe Passed} {m : Mode} {s : Shape} (n : ℕ) → n ≡ kind_at c.kinds p → shape m n ≡ s → Passes s c k l p u t → Steps m c k l p u t
  by_kind {m = m} n e h x = record {
    onward = x.onward;
    done = λ s w r n rs g f y. x.done w r n rs f (subst (λ (z : Shape). Turn z w r n rs) (sym g ∙ ap (shape m) (sym (e ∙ stand_kind f.stand)) ∙ h) y);
  }

  pub same_mode : {k l : List ℕ} {u : ℕ} {t : Maybe Passed} {m n : Mode} → m ≡ n → Steps n c k l p u t → Steps m c k l p u t
  same_mode {k} {l} {u} {t} e x = subst (λ (z : Mode). Steps z c k l p u t) (sym e) x

  -- no token stands so far on
  pub too_far : {A : Type 0} {w : List Token} → Fair c p w → token_limit < p → A
  too_far f h = let l = stand_length f.stand in let g = f.few in absurd (omega arith)

-- the shape of a line by its letter
abbrev pub of_letter : ℕ → Shape
of_letter x =
    cond (eqb x 116) task_line
    (cond (eqb x 100) data_lines
    (cond (eqb x 101) expression_line
    (cond (eqb x 110) name_line
    (cond (eqb x 121) answer_line
    (cond (eqb x 99) constraint_line
    (cond (eqb x 112) postcondition_word end_line))))))

decoded : (k : ℕ) → of_letter (letter (shape_outside k)) ≡ shape_outside k
decoded k =
    let by : (a b d e f g h : Bool) → of_letter (letter (lines a b d e f g h)) ≡ lines a b d e f g h
    = elim [
      | true ↦ λ b d e f g h. refl
      | false ↦ elim [
        | true ↦ λ d e f g h. refl
        | false ↦ elim [
          | true ↦ λ e f g h. refl
          | false ↦ elim [
            | true ↦ λ f g h. refl
            | false ↦ elim [
              | true ↦ λ g h. refl
              | false ↦ elim [
                | true ↦ λ h. refl
                | false ↦ elim [ true ↦ refl | false ↦ refl ]
              ]
            ]
          ]
        ]
      ]
    ] in
    by (is_in k (“plan” ∷ “action” ∷ “enquiry” ∷ [])) (eqb k “data”)
    (is_in k (“caption” ∷ “description” ∷ “precondition” ∷ “wait-condition” ∷ “terminate” ∷ [])) (is_in k (“trigger” ∷ “component” ∷ “source” ∷ []))
    (is_in k (“terminal” ∷ “mandatory” ∷ [])) (eqb k “schedule-constraint”) (eqb k “postcondition”)

pub told : (k : ℕ) {s : ℕ} {z : Shape} → s ≡ letter (shape_outside k) → of_letter s ≡ z → shape_outside k ≡ z
told k e h = sym (decoded k) ∙ ap of_letter (sym e) ∙ h

pub behind_mode : mode_of Behind ≡ behind
behind_mode = refl

pub line_end : (x : ℕ) → ¬ (x ≡ 116) → ¬ (x ≡ 100) → ¬ (x ≡ 101) → ¬ (x ≡ 110) → ¬ (x ≡ 121) → ¬ (x ≡ 99) → ¬ (x ≡ 112) → of_letter x ≡ end_line
line_end x a b d e f g h = rw (ne_eqb x 116 a, ne_eqb x 100 b, ne_eqb x 101 d, ne_eqb x 110 e, ne_eqb x 121 f, ne_eqb x 99 g, ne_eqb x 112 h)

pub before_assignment : (k : ℕ) → ¬ (k ≡ 76) → shape front k ≡ assignment_there
before_assignment k a = rw (ne_eqb k 76 a)

pub behind_and : (k : ℕ) → ¬ (k ≡ 77) → k ≡ 3 → shape behind k ≡ going_on
behind_and k a e = rw e

pub behind_last : (k : ℕ) → ¬ (k ≡ 77) → ¬ (k ≡ 3) → shape behind k ≡ finish
behind_last k a b = rw (ne_eqb k 77 a, ne_eqb k 3 b)
