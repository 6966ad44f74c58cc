-- A row of the four numbers, and the promise of who appends it, by them.
use Rattle.std.specs.Prelude.{ℕ, ◌≡◌, List}
use Rattle.std.proofs.Common.{subst}
use Rattle.changes.specs.declared.row.Row as declared
use Rattle.changes.specs.Push.{Pushes, Asks}

abbrev pub row : ℕ → ℕ → ℕ → ℕ → declared.Row
row a b k x = record { component = a; property = b; tag = k; number = x }

pub pushes_row : {o q : List ℕ} {n m a b k x : ℕ} {r : declared.Row} → r ≡ row a b k x → Pushes o n r.component r.property r.tag r.number q m → Pushes o n a b k x q m
pushes_row {o} {q} {n} {m} e h = subst (λ (z : declared.Row). Pushes o n z.component z.property z.tag z.number q m) e h

pub asks_row : {o q : List ℕ} {n m a b k x : ℕ} {r : declared.Row} → r ≡ row a b k x → Asks o n r.component r.property r.tag r.number q m → Asks o n a b k x q m
asks_row {o} {q} {n} {m} e h = subst (λ (z : declared.Row). Asks o n z.component z.property z.tag z.number q m) e h
