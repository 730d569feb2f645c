-- What the records that keep mean, what they answer to a look, and what becomes of the memory lent to them.
use Rattle.std.specs.Prelude.{◌≡◌, ℕ, zero, suc, ◌+◌, ◌-◌, ◌≤◌, min, true, false, List, [], length, take, drop, Some, None, Option, refl}
use Rattle.std.proofs.Common.{sym, ap, ◌∙◌, arith}
use Rattle.std.specs.List.{slice_get}
use Rattle.std.proofs.lemmas.List.{drop-drop}
use Rattle.model.specs.declared.Step.{Step}
use Rattle.model.specs.Settling.{RecordMeaning, Keeps}

-- the step numbered k, from 1, if it is held
abbrev pub step_at : List Step → ℕ → Option Step
step_at ss zero = None
step_at ss (suc k) = slice_get ss k

-- a record that keeps nothing and has no end
abbrev pub nothing_kept : RecordMeaning
nothing_kept = record { keeps = false; steps = []; room = None }

-- a record that keeps holds these steps and takes so many more
abbrev pub keeper : List Step → ℕ → RecordMeaning
keeper ss k = record { keeps = true; steps = ss; room = Some k }

-- how many steps a record takes that has so many places
abbrev pub most : ℕ → ℕ
most places = min places 65535

-- a table of so many used places
abbrev pub table_of : ℕ → List Step → RecordMeaning
table_of used places = keeper (take used places) (most (length places) - used)

pub keeper_keeps : (ss : List Step) (places used : ℕ) → Keeps (keeper ss (most places - used))
keeper_keeps ss places used _ = omega arith

pub table_keeps : (used : ℕ) (places : List Step) → Keeps (table_of used places)
table_keeps used places = keeper_keeps (take used places) (length places) used

-- lent memory, of which a front is used: the front does not shrink, and what lies beyond it is as it was
pub record Beyond {A : Type 0} (used : ℕ) (before : List A) (used' : ℕ) (after : List A) : Type 0 where
  pub grows : used ≤ used'
  pub long : length after ≡ length before
  pub rest : drop used' after ≡ drop used' before

pub beyond_stays : {A : Type 0} (used : ℕ) (before : List A) → Beyond used before used before
beyond_stays used before = record { grows = omega arith; long = refl; rest = refl }

drop_further : {A : Type 0} (m n : ℕ) (xs ys : List A) → m ≤ n → drop m xs ≡ drop m ys → drop n xs ≡ drop n ys
drop_further m n xs ys h e =
    let s : n ≡ m + (n - m) = omega arith in
    rw s (sym (drop-drop (n - m) m xs) ∙ (ap (drop (n - m)) e ∙ drop-drop (n - m) m ys))

pub beyond_joins : {A : Type 0} {i j k : ℕ} {xs ys zs : List A} → Beyond i xs j ys → Beyond j ys k zs → Beyond i xs k zs
beyond_joins {i = i} {j = j} {k = k} {xs = xs} {ys = ys} {zs = zs} p q = record {
  grows = omega (arith, p.grows, q.grows);
  long = q.long ∙ p.long;
  rest = q.rest ∙ drop_further j k ys xs q.grows p.rest;
}
