-- Where an element may stand for a scalar in the body of a DO of a valid program.
use Rattle.std.proofs.Common.{◌≡◌, ℕ, ◌+◌, List, [], ◌∷◌, ◌++◌, Bool, true, false, ◌&&◌, Some, None, refl, sym, ap, ◌∙◌, if◌then◌else◌, nat_le}
use Rattle.std.specs.Prelude.{nat_lt}
use Rattle.ped_base.specs.Lists.{is_same_text, is_among}
use Rattle.ped_tree.specs.Tree.{Head, StmtTree, StmtTrees, Assign, If, Do, Print, Read, Stop, Comment, no_stmts, more_stmts, ProgramTree}
use Rattle.ped_tree.specs.Nests.{Loop, indices_of}
use Rattle.ped_tree.specs.Numbering.{statement_count, statements_count, numbered, all_numbered, statement_with}
use Rattle.ped_weaves.specs.ped_flow.specs.PlainBounds.{loops_round, all_loops_round, nest_round}
use Rattle.ped_weaves.specs.ped_flow.proofs.Truths.{or_none}
use Rattle.ped_weaves.specs.ped_laws.proofs.FlowRunLaws.Standing.{Stand, whole_stands, first_stands, rest_stands, inner_stands, else_stands, is_there}
use Rattle.ped_weaves.specs.ped_store.specs.Acts.{Turn}
use Rattle.ped_weaves.specs.ped_eval.specs.Scopes.{Setting, Scope, turns_of, index_value}
use Rattle.ped_weaves.specs.ped_laws.specs.FlowRuns.Exits.{IsOneToOne, IsIterationOf, AreIterationsOf}
use Rattle.ped_steps.specs.Runs.Pasting.{AreTurnsOf, IsPlaceOf}

-- a fact about each of a list's items
abbrev pub OfEach : {A : Type 0} → (A → Type 0) → List A → Type 0
OfEach P [] = Unit {0}
OfEach P (a ∷ more) = P a × OfEach P more

pub each_of_both : {A : Type 0} (P : A → Type 0) (xs ys : List A) → OfEach P xs → OfEach P ys → OfEach P (xs ++ ys)
each_of_both P [] ys a b = b
each_of_both P (x ∷ xs) ys a b = (a.0, each_of_both P xs ys a.1 b)

pub each_of_first : {A : Type 0} (P : A → Type 0) (xs ys : List A) → OfEach P (xs ++ ys) → OfEach P xs
each_of_first P [] ys a = tt
each_of_first P (x ∷ xs) ys a = (a.0, each_of_first P xs ys a.1)

pub each_of_rest : {A : Type 0} (P : A → Type 0) (xs ys : List A) → OfEach P (xs ++ ys) → OfEach P ys
each_of_rest P [] ys a = a
each_of_rest P (x ∷ xs) ys a = each_of_rest P xs ys a.1

-- each of the loops round a statement is a DO of the program with its number
module _ (t : ProgramTree) (l : ℕ) where
  abbrev pub IsHere : Loop → Type 0
  IsHere m = (b : StmtTrees) × (statement_with m.number t ≡ Some (Do m.head b))

  one_here : (c : Bool) (n : ℕ) (h : Head) (b : StmtTrees) (inner : List Loop) → statement_with n t ≡ Some (Do h b) → OfEach IsHere inner → OfEach IsHere (if c then (record { number = n; head = h }) ∷ inner else [])
  one_here true n h b inner is all = ((b, is), all)
  one_here false n h b inner is all = tt

  mutual
    loops_here : (s : StmtTree) (n : ℕ) → Stand t n (numbered s) → OfEach IsHere (loops_round l s n)
    loops_here (Assign left right) n st = tt
    loops_here (If c a b) n st =
        let inside = inner_stands t (If c a b) (all_numbered a ++ all_numbered b) n st in
        each_of_both IsHere (all_loops_round l a (n + 1)) (all_loops_round l b (n + 1 + statements_count a)) (all_loops_here a (n + 1) (first_stands t (n + 1) (all_numbered a) (all_numbered b) inside)) (all_loops_here b (n + 1 + statements_count a) (else_stands t a b (n + 1) inside))
    loops_here (Do h b) n st = one_here (nat_lt n l && nat_le l (n + statements_count b)) n h b (all_loops_round l b (n + 1)) (is_there t (Do h b) (all_numbered b) n st) (all_loops_here b (n + 1) (inner_stands t (Do h b) (all_numbered b) n st))
    loops_here (Print items) n st = tt
    loops_here (Read items) n st = tt
    loops_here Stop n st = tt
    loops_here (Comment text) n st = tt

    all_loops_here : (ss : StmtTrees) (n : ℕ) → Stand t n (all_numbered ss) → OfEach IsHere (all_loops_round l ss n)
    all_loops_here no_stmts n st = tt
    all_loops_here (more_stmts s rest) n st = each_of_both IsHere (loops_round l s n) (all_loops_round l rest (n + statement_count s)) (loops_here s n (first_stands t n (numbered s) (all_numbered rest) st)) (all_loops_here rest (n + statement_count s) (rest_stands t s rest n st))

  pub nest_here : OfEach IsHere (nest_round t l)
  nest_here = all_loops_here t.body 1 (whole_stands t)

  -- a name that no loop round the statement has as its variable stands for no value there
  module _ (p : Setting) (one : IsOneToOne p.number) (x : List ℕ) where
    abbrev IsOther : Turn → Type 0
    IsOther u = (n : ℕ) × (u.statement ≡ p.number n) × ((h : Head) (b : StmtTrees) → statement_with n t ≡ Some (Do h b) → is_same_text x h.variable ≡ false)

    same_head : (h g : Head) (b c : StmtTrees) → Some (Do h b) ≡ Some (Do g c) → h ≡ g
    same_head h g b c e = cc

    others : (ls : List Loop) (us : List Turn) → OfEach IsHere ls → is_among x (indices_of ls) ≡ false → AreTurnsOf p.number ls us → OfEach IsOther us
    others [] [] here h turns = tt
    others [] (u ∷ us) here h turns = absurd turns
    others (m ∷ ls) [] here h turns = absurd turns
    others (m ∷ ls) (u ∷ us) here h turns =
        let apart = or_none (is_same_text x m.head.variable) (is_among x (indices_of ls)) h in
        ((m.number, turns.0, λ g c is. ap (λ (k : Head). is_same_text x k.variable) (same_head g m.head c here.0.0 (sym is ∙ here.0.1)) ∙ apart.0), others ls us here.1 apart.1 turns.2)

    untold : (S : Scope) → AreIterationsOf p t S → OfEach IsOther (turns_of S) → index_value S x ≡ None
    untold [] iterations all = refl
    untold (f ∷ fs) iterations all =
        let mine = (each_of_rest IsOther (turns_of fs) (f.turn ∷ []) all).0 in
        let at : IsIterationOf p t f = iterations.0 in
        let same : mine.0 ≡ at.number = one mine.0 at.number (sym mine.1 ∙ at.turn) in
        let apart : is_same_text x f.variable ≡ false = ap (is_same_text x) at.variable ∙ mine.2 at.loop.head at.loop.body (ap (λ (n : ℕ). statement_with n t) same ∙ at.loop.is) in
        ap (λ (b : Bool). if b then Some f.turn.value else index_value fs x) apart ∙ untold fs iterations.1 (each_of_first IsOther (turns_of fs) (f.turn ∷ []) all)

    pub untold_at : is_among x (indices_of (nest_round t l)) ≡ false → (S : Scope) → IsPlaceOf p t l S → index_value S x ≡ None
    untold_at h S place = untold S place.iterations (others (nest_round t l) (turns_of S) nest_here h place.turns)
