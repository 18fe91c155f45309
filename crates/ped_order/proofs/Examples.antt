-- A program that the law of interleavings speaks of: each list of choices gives one outcome.
use Rattle.std.proofs.Common.{◌≡◌, ℕ, pos, List, [], ◌∷◌, Bool, true, false, ◌&&◌, not, Some, refl, ◌∙◌}
use Rattle.std.proofs.lemmas.Bool.{and_parts}
use Rattle.std.proofs.lemmas.List.Elements.{All-from_recursion}
use Rattle.std.specs.Prelude.{codes}
use Rattle.std.specs.List.{AllByRecursion}
use Rattle.std.specs.Fmt.{digits}
use Rattle.ped_interleavings.specs.ped_tree.specs.Tree.{ExprTree, Int, Var, Element, Mul, no_exprs, more_exprs, Assign, Do, no_stmts, more_stmts, Integer, Save, ProgramTree}
use Rattle.ped_interleavings.specs.ped_tree.specs.Grammar.Words.{intrinsic_of}
use Rattle.ped_interleavings.specs.ped_tree.specs.Grammar.Refusal.{refused_if}
use Rattle.ped_interleavings.specs.ped_eval.specs.ped_store.specs.Races.{Access, accesses, race, HasNoRace}
use Rattle.ped_interleavings.specs.ped_eval.specs.Outcomes.{Outcome, Ended, run_of, outcome, IsRaceFree}
use Rattle.ped_interleavings.specs.Interleavings.{IsInterleaved}
use Rattle.ped_laws.specs.ped_graph.specs.ped_symbols.specs.NameRefusals.{IsValid}

-- no access of a list races with one behind it, as a test
abbrev none_races : Access → List Access → Bool
none_races a [] = true
none_races a (b ∷ more) = not (race a b) && none_races a more

abbrev no_race : List Access → Bool
no_race [] = true
no_race (a ∷ more) = none_races a more && no_race more

is_no : (b : Bool) → not b ≡ true → b ≡ false
is_no false h = refl
is_no true h = absurd cc

all_apart : (a : Access) (more : List Access) → none_races a more ≡ true → AllByRecursion (λ b. race a b ≡ false) more
all_apart a [] h = tt
all_apart a (b ∷ more) h = let p = and_parts (not (race a b)) (none_races a more) h in (is_no (race a b) p.0, all_apart a more p.1)

tested : (all : List Access) → no_race all ≡ true → HasNoRace all
tested [] h = tt
tested (a ∷ more) h = let p = and_parts (none_races a more) (no_race more) h in (All-from_recursion (λ b. race a b ≡ false) more (all_apart a more p.0), tested more p.1)

abbrev i : ExprTree
i = Var (codes "I")

abbrev m : ExprTree
m = Var (codes "M")

-- INTEGER A(3); SAVE A; PARALLEL DO 10 I = 1, 3; PRIVATE M; M = I; A(I) = M*M
abbrev squares : ProgramTree
squares = record {
  decls = Integer (record { name = codes "A"; bounds = record { lower = Int 1; upper = Int 3 } ∷ [] } ∷ []) ∷ Save (codes "A" ∷ []) ∷ [];
  body = more_stmts (Do (record { variable = codes "I"; first = Int 1; last = Int 3; step = Int 1; parallel = true; private = codes "M" ∷ []; rejected = [] })
      (more_stmts (Assign m i) (more_stmts (Assign (Element (codes "A") (more_exprs i no_exprs)) (Mul m m)) no_stmts))) no_stmts;
}

squares_valid : IsValid squares
unfolding digits intrinsic_of refused_if
squares_valid = record { fits = refl; names = refl }

squares_race_free : IsRaceFree squares []
squares_race_free = (tt, tested (accesses (run_of squares []).acts) refl)

squares_in_order : outcome squares [] ≡ Ended [] (record { name = codes "A"; values = Some (pos 1) ∷ Some (pos 4) ∷ Some (pos 9) ∷ [] } ∷ [])
squares_in_order = refl

-- so with each list of choices A holds 1, 4 and 9
pub squares_agree : ((t : ProgramTree) (data_bytes choices : List ℕ) (o : Outcome) → IsValid t → IsRaceFree t data_bytes → IsInterleaved t data_bytes choices o → o ≡ outcome t data_bytes)
    → (choices : List ℕ) (o : Outcome) → IsInterleaved squares [] choices o → o ≡ Ended [] (record { name = codes "A"; values = Some (pos 1) ∷ Some (pos 4) ∷ Some (pos 9) ∷ [] } ∷ [])
squares_agree law choices o h = law squares [] choices o squares_valid squares_race_free h ∙ squares_in_order
