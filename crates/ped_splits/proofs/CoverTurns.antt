-- In which iterations the acts of statements stand: in those round the statements, and further inside in DO loops that are among the statements.
use Rattle.std.proofs.Common.{◌≡◌, ◌⊎◌, ℕ, ◌+◌, ◌<◌, ◌≤◌, List, [], ◌∷◌, ◌++◌, inl, inr, refl, sym, ap, ◌∙◌, subst, append_assoc, append-nil, arith}
use Rattle.ped_tree.specs.Numbering.{statement_count, statements_count}
use Rattle.ped_tree.specs.Tree.{StmtTree, StmtTrees, Assign, If, Do, Print, Read, Stop, Comment, no_stmts, more_stmts, ProgramTree}
use Rattle.ped_rules.specs.ped_steps.proofs.RunLaws.RunCells.{EachDo, EachDos}
use Rattle.ped_rules.specs.ped_steps.proofs.RunLaws.RunPlaces.{all_each, run_each}
use Rattle.ped_rules.specs.ped_laws.specs.Acts.Orders.{IsIn}
use Rattle.ped_rules.specs.ped_eval.specs.Loops.{entered_with, frame}
use Rattle.ped_rules.specs.ped_eval.specs.Outcomes.{setting_of}
use Rattle.ped_rules.specs.ped_eval.specs.Runs.{run, run_all}
use Rattle.ped_rules.specs.ped_eval.specs.Scopes.{Scope, turns_of}
use Rattle.ped_rules.specs.ped_store.specs.Acts.{Act, Turn}
use Rattle.ped_rules.specs.ped_store.specs.Stores.{Store}

-- the DO loops in statements have numbers of theirs
mutual
  do_within : (x : StmtTree) (n lo hi : ℕ) → lo ≤ n → n + statement_count x ≤ hi → EachDo (λ k h b. (lo ≤ k) × (k < hi)) x n
  do_within (Assign left right) n lo hi h k = tt
  do_within (If c a b) n lo hi h k = (dos_within a (n + 1) lo hi (omega (arith, h)) (omega (arith, k)), dos_within b (n + 1 + statements_count a) lo hi (omega (arith, h)) (omega (arith, k)))
  do_within (Do head b) n lo hi h k = ((h, omega (arith, k)), dos_within b (n + 1) lo hi (omega (arith, h)) (omega (arith, k)))
  do_within (Print items) n lo hi h k = tt
  do_within (Read items) n lo hi h k = tt
  do_within Stop n lo hi h k = tt
  do_within (Comment text) n lo hi h k = tt

  dos_within : (xs : StmtTrees) (n lo hi : ℕ) → lo ≤ n → n + statements_count xs ≤ hi → EachDos (λ k h b. (lo ≤ k) × (k < hi)) xs n
  dos_within no_stmts n lo hi h k = tt
  dos_within (more_stmts x rest) n lo hi h k = (do_within x n lo hi h (omega (arith, k)), dos_within rest (n + statement_count x) lo hi (omega (arith, h)) (omega (arith, k)))

-- iterations of DO loops with such numbers
abbrev pub AreWithin : ℕ → ℕ → List Turn → Type 0
AreWithin lo hi [] = Unit {0}
AreWithin lo hi (t ∷ ts) = ((lo ≤ t.statement) × (t.statement < hi)) × AreWithin lo hi ts

-- an act in these iterations and further inside, in DO loops with such numbers
abbrev pub StandsWithin : ℕ → ℕ → List Turn → Act → Type 0
StandsWithin lo hi ts a = (more : List Turn) × (a.place.turns ≡ ts ++ more) × AreWithin lo hi more

pub one_within : (t : ProgramTree) (x : StmtTree) (n : ℕ) (S : Scope) (s : Store) (a : Act) → IsIn a (run (setting_of t) x n S s).acts → StandsWithin n (n + statement_count x) (turns_of S) a
one_within t x n S s a i =
    run_each (setting_of t) (λ k h body. (n ≤ k) × (k < n + statement_count x)) (λ T b. StandsWithin n (n + statement_count x) (turns_of T) b) (λ T k step touches. ([], sym (append-nil (turns_of T)), tt))
    (λ k h body seen m j T u b q there inside.
    let r = (frame (entered_with (setting_of t) k h body seen m) j).turn in
    (r ∷ inside.0, inside.1 ∙ append_assoc (turns_of T) (r ∷ []) inside.0, (q, inside.2)))
    x n S s (do_within x n n (n + statement_count x) (omega arith) (omega arith)) a i

pub stands_within : (t : ProgramTree) (ts : StmtTrees) (n : ℕ) (S : Scope) (s : Store) (a : Act) → IsIn a (run_all (setting_of t) ts n S s).acts → StandsWithin n (n + statements_count ts) (turns_of S) a
stands_within t ts n S s a i =
    all_each (setting_of t) (λ k h body. (n ≤ k) × (k < n + statements_count ts)) (λ T b. StandsWithin n (n + statements_count ts) (turns_of T) b) (λ T k step touches. ([], sym (append-nil (turns_of T)), tt))
    (λ k h body seen m j T u b q there inside.
    let r = (frame (entered_with (setting_of t) k h body seen m) j).turn in
    (r ∷ inside.0, inside.1 ∙ append_assoc (turns_of T) (r ∷ []) inside.0, (q, inside.2)))
    ts n S s (dos_within ts n n (n + statements_count ts) (omega arith) (omega arith)) a i

-- the first of these iterations is of a DO with such a number, and the others are of DO loops in it
abbrev pub AreLed : ℕ → ℕ → List Turn → Type 0
AreLed lo hi [] = Unit {0}
AreLed lo hi (t ∷ ts) = ((lo ≤ t.statement) × (t.statement < hi)) × ((last : ℕ) × AreWithin (t.statement + 1) last ts)

abbrev pub StandsLed : ℕ → ℕ → List Turn → Act → Type 0
StandsLed lo hi ts a = (more : List Turn) × (a.place.turns ≡ ts ++ more) × AreLed lo hi more

pub stands_led : (t : ProgramTree) (ts : StmtTrees) (n : ℕ) (S : Scope) (s : Store) (a : Act) → IsIn a (run_all (setting_of t) ts n S s).acts → StandsLed n (n + statements_count ts) (turns_of S) a
stands_led t ts n S s a i =
    all_each (setting_of t) (λ k h body. (n ≤ k) × (k < n + statements_count ts)) (λ T b. StandsLed n (n + statements_count ts) (turns_of T) b) (λ T k step touches. ([], sym (append-nil (turns_of T)), tt))
    (λ k h body seen m j T u b q there inside.
    let r = (frame (entered_with (setting_of t) k h body seen m) j).turn in
    let w = stands_within t body (k + 1) (frame (entered_with (setting_of t) k h body seen m) j ∷ T) u b there in
    (r ∷ w.0, w.1 ∙ append_assoc (turns_of T) (r ∷ []) w.0, (q, (k + 1 + statements_count body, w.2))))
    ts n S s (dos_within ts n n (n + statements_count ts) (omega arith) (omega arith)) a i

-- none of these iterations is of a DO with such a number
abbrev pub AreOutside : ℕ → ℕ → List Turn → Type 0
AreOutside lo hi [] = Unit {0}
AreOutside lo hi (t ∷ ts) = ((t.statement < lo) ⊎ (hi ≤ t.statement)) × AreOutside lo hi ts

outside_more : (lo hi n m : ℕ) → (m ≤ lo) ⊎ (hi ≤ n) → (ts more : List Turn) → AreOutside lo hi ts → AreWithin n m more → AreOutside lo hi (ts ++ more)
outside_more lo hi n m apart [] [] h k = tt
outside_more lo hi n m apart [] (t ∷ more) h k = ((let from = k.0.0 in let to = k.0.1 in elim apart [ inl low ↦ inl (omega (arith, low, to)) | inr high ↦ inr (omega (arith, high, from)) ]), outside_more lo hi n m apart [] more tt k.1)
outside_more lo hi n m apart (t ∷ ts) more h k = (h.0, outside_more lo hi n m apart ts more h.1 k)

pub outside_deeper : (lo hi : ℕ) (ts : List Turn) (t : Turn) → t.statement < lo → AreOutside lo hi ts → AreOutside lo hi (ts ++ t ∷ [])
outside_deeper lo hi [] t less h = (inl less, tt)
outside_deeper lo hi (u ∷ ts) t less h = (h.0, outside_deeper lo hi ts t less h.1)

pub outside_other : (lo hi n m : ℕ) → (m ≤ lo) ⊎ (hi ≤ n) → (ts : List Turn) (a : Act) → AreOutside lo hi ts → StandsWithin n m ts a → AreOutside lo hi a.place.turns
outside_other lo hi n m apart ts a h w = subst (AreOutside lo hi) (sym w.1) (outside_more lo hi n m apart ts w.0 h w.2)

pub not_outside : (lo hi : ℕ) (ts : List Turn) (t : Turn) (us : List Turn) → lo ≤ t.statement → t.statement < hi → AreOutside lo hi (ts ++ t ∷ us) → ⊥
not_outside lo hi [] t us from to h = elim h.0 [ inl low ↦ omega (arith, low, from) | inr high ↦ omega (arith, high, to) ]
not_outside lo hi (u ∷ ts) t us from to h = not_outside lo hi ts t us from to h.1

within_middle : (lo hi : ℕ) (ts : List Turn) (t : Turn) (us : List Turn) → AreWithin lo hi (ts ++ t ∷ us) → lo ≤ t.statement
within_middle lo hi [] t us h = h.0.0
within_middle lo hi (u ∷ ts) t us h = within_middle lo hi ts t us h.1

same_first : (x y : Turn) (xs ys : List Turn) → x ∷ xs ≡ y ∷ ys → x ≡ y
same_first x y xs ys e = cc

same_rest : (x y : Turn) (xs ys : List Turn) → x ∷ xs ≡ y ∷ ys → xs ≡ ys
same_rest x y xs ys e = cc

-- iterations of DO loops with lesser numbers, and then such ones: those in front of one of a DO with the least number of these are the former
module _ (s hi : ℕ) (AreBelow : List Turn → Type 0) (less : (t : Turn) (ts : List Turn) → AreBelow (t ∷ ts) → (t.statement < s) × AreBelow ts) where
  pub same_round : (ts more us : List Turn) (t : Turn) (vs : List Turn) → AreBelow ts → AreLed s hi more → ts ++ more ≡ us ++ t ∷ vs → t.statement ≡ s → us ≡ ts
  same_round [] more [] t vs below led e is = refl
  same_round [] more (u ∷ us) t vs below led e is =
      let k : AreLed s hi (u ∷ (us ++ t ∷ vs)) = subst (AreLed s hi) e led in
      let from = k.0.0 in
      let later = within_middle (u.statement + 1) k.1.0 us t vs k.1.1 in
      absurd (omega (arith, from, later, is))
  same_round (x ∷ ts) more [] t vs below led e is =
      let first : x.statement ≡ t.statement = ap (λ (w : Turn). w.statement) (same_first x t (ts ++ more) vs e) in
      let low = (less x ts below).0 in
      absurd (omega (arith, first, low, is))
  same_round (x ∷ ts) more (u ∷ us) t vs below led e is =
      λ i. sym (same_first x u (ts ++ more) (us ++ t ∷ vs) e) i ∷ same_round ts more us t vs (less x ts below).1 led (same_rest x u (ts ++ more) (us ++ t ∷ vs) e) is i
