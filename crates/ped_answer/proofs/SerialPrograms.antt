-- A bare program has no PARALLEL DO and no C$PED REJECT line: it may be trusted, and no run of it has a race.
use Rattle.std.proofs.Common.{◌≡◌, refl, sym, ap, subst, inl, inr, ℕ, suc, ◌+◌, false, List, [], ◌∷◌, ◌++◌}
use Rattle.std.specs.List.{AllByRecursion}
use Rattle.std.proofs.lemmas.Bool.{both_ways, or_from, false_from_ne_true}
use Rattle.std.proofs.lemmas.List.Elements.{All-from_recursion}
use Rattle.ped_base.specs.Lists.{has_some}
use Rattle.ped_tree.specs.Tree.{StmtTree, StmtTrees, Assign, If, Do, Print, Read, Stop, Comment, no_stmts, more_stmts, ProgramTree}
use Rattle.ped_tree.specs.Numbering.{statement_count, statements_count}
use Rattle.ped_tree.specs.Accesses.{Access as Reading, own_accesses, constant_names}
use Rattle.ped_tree.specs.Nests.{Loop, indices_of}
use Rattle.ped_session.specs.ped_symbols.specs.NameRefusals.{IsValid}
use Rattle.ped_session.specs.ped_refs.specs.References.{Reference, numbered_accesses, statement_references, statements_references, references}
use Rattle.ped_session.specs.ped_rules.specs.ped_edges.specs.Edges.{Edge}
use Rattle.ped_session.specs.ped_graph.specs.Dependences.{AreEdges}
use Rattle.ped_session.specs.ped_rules.specs.ped_store.specs.Races.{Access, accesses, race, HasNoRace}
use Rattle.ped_session.specs.ped_rules.specs.ped_eval.specs.Outcomes.{run_of}
use Rattle.ped_session.specs.ped_laws.specs.Acts.Orders.{IsIn}
use Rattle.ped_session.specs.ped_laws.specs.Conflicts.Covered.{IsParallelAt}
use Rattle.ped_session.specs.ped_transformations.specs.ped_loop_runs.specs.Unrejected.{has_rejection, some_rejection, IsTrusted}
use Rattle.ped_answer.proofs.BareTexts.{IsBare, AreBare, joined, behind}
use Rattle.ped_answer.proofs.NoLists.{bare_loop}
use Rattle.ped_answer.proofs.CoveredPanes.{RacesCovered}

-- no C$PED REJECT line

mutual
  unrejected_one : (s : StmtTree) → IsBare s → has_rejection s ≡ false
  unrejected_one (Assign left right) bare = refl
  unrejected_one (If condition a b) bare = or_from (some_rejection a) (some_rejection b) (unrejected a bare.0) (unrejected b bare.1)
  unrejected_one (Do h body) bare = or_from (has_some h.rejected) (some_rejection body) (ap has_some bare.0.unrejected) (unrejected body bare.1)
  unrejected_one (Print items) bare = refl
  unrejected_one (Read items) bare = refl
  unrejected_one Stop bare = refl
  unrejected_one (Comment text) bare = refl

  unrejected : (ss : StmtTrees) → AreBare ss → some_rejection ss ≡ false
  unrejected no_stmts bare = refl
  unrejected (more_stmts s rest) bare = or_from (has_rejection s) (some_rejection rest) (unrejected_one s bare.0) (unrejected rest bare.1)

-- a bare program may be trusted
pub is_trusted : (t : ProgramTree) → AreBare t.body → IsTrusted t
is_trusted t bare = record {
  tidy = λ l loop parallel x index. absurd (both_ways loop.head.parallel (bare_loop t bare l loop.head loop.body loop.is).0.in_order parallel);
  unrejected = unrejected t.body bare;
}

-- no reference stands in a PARALLEL DO

abbrev IsInOrder : Loop → Type 0
IsInOrder l = l.head.parallel ≡ false

abbrev IsOutside : Reference → Type 0
IsOutside r = AllByRecursion IsInOrder r.nest

numbered_outside : (n number : ℕ) (nest : List Loop) (all : List Reading) → AllByRecursion IsInOrder nest → AllByRecursion IsOutside (numbered_accesses n number nest all)
numbered_outside n number nest [] order = tt
numbered_outside n number nest (a ∷ rest) order = (order, numbered_outside n (suc number) nest rest order)

module _ (constants : List (List ℕ)) where
  own_outside : (nest : List Loop) (n : ℕ) (s : StmtTree) → AllByRecursion IsInOrder nest → AllByRecursion IsOutside (numbered_accesses n 1 nest (own_accesses constants (indices_of nest) s))
  own_outside nest n s order = numbered_outside n 1 nest (own_accesses constants (indices_of nest) s) order

  mutual
    one_outside : (nest : List Loop) (n : ℕ) (s : StmtTree) → IsBare s → AllByRecursion IsInOrder nest → AllByRecursion IsOutside (statement_references constants nest n s)
    one_outside nest n (Assign left right) bare order = own_outside nest n (Assign left right) order
    one_outside nest n (If condition a b) bare order =
        let then_part = statements_references constants nest (n + 1) a in
        let else_part = statements_references constants nest (n + 1 + statements_count a) b in
        let own = numbered_accesses n 1 nest (own_accesses constants (indices_of nest) (If condition a b)) in
        joined IsOutside (own ++ then_part) else_part (joined IsOutside own then_part (own_outside nest n (If condition a b) order) (all_outside nest (n + 1) a bare.0 order))
        (all_outside nest (n + 1 + statements_count a) b bare.1 order)
    one_outside nest n (Do h body) bare order =
        let own : Loop = record { number = n; head = h } in
        joined IsOutside (numbered_accesses n 1 nest (own_accesses constants (indices_of nest) (Do h body))) (statements_references constants (nest ++ own ∷ []) (n + 1) body) (own_outside nest n (Do h body) order)
        (all_outside (nest ++ own ∷ []) (n + 1) body bare.1 (joined IsInOrder nest (own ∷ []) order (bare.0.in_order, tt)))
    one_outside nest n (Print items) bare order = own_outside nest n (Print items) order
    one_outside nest n (Read items) bare order = own_outside nest n (Read items) order
    one_outside nest n Stop bare order = tt
    one_outside nest n (Comment text) bare order = tt

    all_outside : (nest : List Loop) (n : ℕ) (ss : StmtTrees) → AreBare ss → AllByRecursion IsInOrder nest → AllByRecursion IsOutside (statements_references constants nest n ss)
    all_outside nest n no_stmts bare order = tt
    all_outside nest n (more_stmts s rest) bare order =
        joined IsOutside (statement_references constants nest n s) (statements_references constants nest (n + statement_count s) rest) (one_outside nest n s bare.0 order) (all_outside nest (n + statement_count s) rest bare.1 order)

all_in : (rs : List Reference) (r : Reference) → AllByRecursion IsOutside rs → IsIn r rs → IsOutside r
all_in [] r all i = absurd i
all_in (x ∷ xs) r all (inl e) = subst IsOutside (sym e) all.0
all_in (x ∷ xs) r all (inr i) = all_in xs r all.1 i

not_parallel : (nest : List Loop) (level : ℕ) → AllByRecursion IsInOrder nest → IsParallelAt nest level → ⊥
not_parallel nest level order (before, l, inner, is, place, parallel) =
    both_ways l.head.parallel (behind IsInOrder before (l ∷ inner) (subst (AllByRecursion IsInOrder) is order)).0 parallel

-- accesses of which none races with a later one

later : (a : Access) (xs : List Access) → ((b : Access) (between rest : List Access) → xs ≡ between ++ b ∷ rest → race a b ≡ false) → AllByRecursion (λ b. race a b ≡ false) xs
later a [] none = tt
later a (x ∷ xs) none = (none x [] xs refl, later a xs (λ b between rest is. none b (x ∷ between) rest (ap (λ (all : List Access). x ∷ all) is)))

no_race : (xs : List Access) → ((a b : Access) (before between rest : List Access) → xs ≡ before ++ a ∷ (between ++ b ∷ rest) → race a b ≡ false) → HasNoRace xs
no_race [] none = tt
no_race (x ∷ xs) none = (
  All-from_recursion (λ b. race x b ≡ false) xs (later x xs (λ b between rest is. none x b [] between rest (ap (λ (all : List Access). x ∷ all) is))),
  no_race xs (λ a b before between rest is. none a b (x ∷ before) between rest (ap (λ (all : List Access). x ∷ all) is)),
)

-- no run of a bare program has a race
pub has_no_race : RacesCovered → ((t : ProgramTree) → (edges : List Edge) × AreEdges t edges) → (t : ProgramTree) (data_bytes : List ℕ) → IsValid t → AreBare t.body → HasNoRace (accesses (run_of t data_bytes).acts)
has_no_race covered exist t data_bytes valid bare = no_race (accesses (run_of t data_bytes).acts) (λ a b before between rest is. false_from_ne_true (race a b) (λ races.
    let edges = exist t in
    let carried = covered t data_bytes a b edges.0 valid (record { before = before; between = between; behind = rest; is = is }) races edges.1 in
    not_parallel carried.reference.nest carried.level (all_in (references t) carried.reference (all_outside (constant_names t.decls) [] 1 t.body bare tt) carried.of_program) carried.parallel))
