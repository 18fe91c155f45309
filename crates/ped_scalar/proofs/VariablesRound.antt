-- The DO loops round a DO end behind it; of a tidy program those that are parallel have no scalar as a variable that the DO writes.
use Rattle.std.proofs.Common.{◌≡◌, ℕ, ◌+◌, ◌≤◌, ◌<◌, List, [], ◌∷◌, ◌++◌, Bool, true, false, ◌&&◌, Some, inl, inr, if◌then◌else◌, refl, sym, ap, subst, ◌∙◌, arith, nat_le}
use Rattle.std.specs.Prelude.{nat_lt}
use Rattle.std.specs.List.{list_any}
use Rattle.std.proofs.lemmas.Bool.{ltb-true, lt-ltb, leb-true, or_parts, and_parts, or_left, or_right}
use Rattle.ped_base.specs.Lists.{is_same_text, is_among}
use Rattle.ped_tree.specs.Tree.{Head, StmtTree, StmtTrees, Assign, If, Do, Print, Read, Stop, Comment, no_stmts, more_stmts, ProgramTree}
use Rattle.ped_tree.specs.Numbering.{statement_count, statements_count, numbered, all_numbered, statement_with}
use Rattle.ped_tree.specs.Nests.{Loop}
use Rattle.ped_refs.specs.References.{Reference, references}
use Rattle.ped_tree.specs.NamesIn.{loop_variables}
use Rattle.ped_rules.specs.ped_laws.specs.Acts.Orders.{IsIn}
use Rattle.ped_rules.specs.ped_flow.specs.PlainBounds.{loops_round, all_loops_round, nest_round}
use Rattle.ped_rules.specs.ped_flow.specs.Questions.{LoopOf, IsIndexIn}
use Rattle.ped_rules.specs.ped_flow.proofs.Answering.{same_head, same_body}
use Rattle.ped_rules.specs.ped_flow.proofs.Truths.{untrue, or_split}
use Rattle.ped_rules.specs.ped_laws.proofs.FlowRunLaws.Standing.{Stand, whole_stands, first_stands, rest_stands, inner_stands, else_stands, is_there}
use Rattle.ped_rules.specs.ped_steps.specs.Tidy.{is_write_in, is_written_in, IsTidy}
use Rattle.ped_scalar.proofs.ArraysForScalars.{IsRound}
use Rattle.ped_rules.specs.ped_steps.proofs.RunLaws.UntoldVariables.{OfEach, each_of_both}
use Rattle.ped_rules.proofs.NameLaws.ReferencesThere.{all_end_within}

-- what is so of each item is so of one
of_one : {A : Type 0} (P : A → Type 0) (xs : List A) (a : A) → OfEach P xs → IsIn a xs → P a
of_one P [] a all i = absurd i
of_one P (x ∷ xs) a all (inl e) = subst P (sym e) all.0
of_one P (x ∷ xs) a all (inr i) = of_one P xs a all.1 i

none_of : {A : Type 0} (test : A → Bool) (xs : List A) (a : A) → list_any test xs ≡ false → IsIn a xs → test a ≡ false
none_of test [] a h i = absurd i
none_of test (x ∷ xs) a h (inl e) = ap test e ∙ (or_parts (test x) (list_any test xs) h).0
none_of test (x ∷ xs) a h (inr i) = none_of test xs a (or_parts (test x) (list_any test xs) h).1 i

more_found : {A : Type 0} (f g : A → Bool) (xs : List A) → ((a : A) → f a ≡ true → g a ≡ true) → list_any f xs ≡ true → list_any g xs ≡ true
more_found f g [] more h = untrue h
more_found f g (x ∷ xs) more h = elim (or_split (f x) (list_any f xs) h) [
  | inl e ↦ or_left (g x) (list_any g xs) (more x e)
  | inr e ↦ or_right (g x) (list_any g xs) (more_found f g xs more e)
]

module _ (t : ProgramTree) (s : ℕ) (h : Head) (b : StmtTrees) (is : statement_with s t ≡ Some (Do h b)) where
  -- a DO of the program, which begins before the DO with number s and doesn't end before it
  pub record Encloses (m : Loop) : Type 0 where
    pub body : StmtTrees
    pub stands : statement_with m.number t ≡ Some (Do m.head body)
    pub begins : m.number < s
    pub ends : s + (statements_count b + 1) ≤ m.number + (statements_count body + 1)

  one : (u v : Bool) (g : Head) (c : StmtTrees) (n : ℕ) (inner : List Loop) → Stand t n (numbered (Do g c)) → nat_lt n s ≡ u → nat_le s (n + statements_count c) ≡ v → OfEach Encloses inner
      → OfEach Encloses (if u && v then (record { number = n; head = g }) ∷ inner else [])
  one true true g c n inner st e f all =
      let from : n < s = ltb-true n s e in
      let to : s ≤ n + statements_count c = leb-true s (n + statements_count c) f in
      let ends = all_end_within t s h b is c (n + 1) (inner_stands t (Do g c) (all_numbered c) n st) (omega (arith, from)) (omega (arith, to)) in (
        record { body = c; stands = is_there t (Do g c) (all_numbered c) n st; begins = from; ends = omega (arith, ends) },
        all,
      )
  one true false g c n inner st e f all = tt
  one false v g c n inner st e f all = tt

  mutual
    enclosing : (x : StmtTree) (n : ℕ) → Stand t n (numbered x) → OfEach Encloses (loops_round s x n)
    enclosing (Assign left right) n st = tt
    enclosing (If c p q) n st =
        let inner = inner_stands t (If c p q) (all_numbered p ++ all_numbered q) n st in
        each_of_both Encloses (all_loops_round s p (n + 1)) (all_loops_round s q (n + 1 + statements_count p)) (all_enclosing p (n + 1) (first_stands t (n + 1) (all_numbered p) (all_numbered q) inner))
        (all_enclosing q (n + 1 + statements_count p) (else_stands t p q (n + 1) inner))
    enclosing (Do g c) n st =
        one (nat_lt n s) (nat_le s (n + statements_count c)) g c n (all_loops_round s c (n + 1)) st refl refl (all_enclosing c (n + 1) (inner_stands t (Do g c) (all_numbered c) n st))
    enclosing (Print items) n st = tt
    enclosing (Read items) n st = tt
    enclosing Stop n st = tt
    enclosing (Comment text) n st = tt

    all_enclosing : (xs : StmtTrees) (n : ℕ) → Stand t n (all_numbered xs) → OfEach Encloses (all_loops_round s xs n)
    all_enclosing no_stmts n st = tt
    all_enclosing (more_stmts x rest) n st =
        each_of_both Encloses (loops_round s x n) (all_loops_round s rest (n + statement_count x)) (enclosing x n (first_stands t n (numbered x) (all_numbered rest) st))
        (all_enclosing rest (n + statement_count x) (rest_stands t x rest n st))

  nest_encloses : OfEach Encloses (nest_round t s)
  nest_encloses = all_enclosing t.body 1 (whole_stands t)

  -- the DO round it with a number begins before it and doesn't end before it
  module _ (n : ℕ) (m : LoopOf t n) (round : IsRound t s n) where
    there : Encloses round.0
    there = of_one Encloses (nest_round t s) round.0 nest_encloses round.1

    stands : statement_with n t ≡ Some (Do round.0.head there.body)
    stands = ap (λ (k : ℕ). statement_with k t) (sym round.2) ∙ there.stands

    head_is : round.0.head ≡ m.head
    head_is = same_head t n round.0.head m.head there.body m.body stands m.is

    begins_before : n < s
    begins_before = let k = there.begins in omega (arith, k, round.2)

    ends_behind : s + (statements_count b + 1) ≤ n + (statements_count m.body + 1)
    ends_behind =
        let k = there.ends in
        let same = ap statements_count (same_body t n round.0.head m.head there.body m.body stands m.is) in
        omega (arith, k, same, round.2)

    pub private_round : (x : List ℕ) → list_any (λ k. is_among x k.head.private) (nest_round t s) ≡ false → is_among x m.head.private ≡ false
    private_round x none = ap (λ (g : Head). is_among x g.private) (sym head_is) ∙ none_of (λ (k : Loop). is_among x k.head.private) (nest_round t s) round.0 none round.1

    within : (x : List ℕ) (r : Reference) → is_write_in s (statements_count b + 1) x r ≡ true → is_write_in n (statements_count m.body + 1) x r ≡ true
    within x r e =
        let first = and_parts (nat_lt s r.statement && nat_lt r.statement (s + (statements_count b + 1)) && is_same_text x r.access.name) r.access.writes e in
        let second = and_parts (nat_lt s r.statement && nat_lt r.statement (s + (statements_count b + 1))) (is_same_text x r.access.name) first.0 in
        let third = and_parts (nat_lt s r.statement) (nat_lt r.statement (s + (statements_count b + 1))) second.0 in
        let from : s < r.statement = ltb-true s r.statement third.0 in
        let to : r.statement < s + (statements_count b + 1) = ltb-true r.statement (s + (statements_count b + 1)) third.1 in
        let begins = begins_before in
        let ends = ends_behind in
        λ i. lt-ltb n r.statement (omega (arith, from, begins)) i && lt-ltb r.statement (n + (statements_count m.body + 1)) (omega (arith, to, ends)) i && second.1 i && first.1 i

    -- what a reference in the DO writes a reference in that one writes
    pub written_round : (x : List ℕ) → is_written_in t s b x ≡ true → is_written_in t n m.body x ≡ true
    written_round x = more_found (is_write_in s (statements_count b + 1) x) (is_write_in n (statements_count m.body + 1) x) (references t) (within x)

    -- where that one is parallel, and the program tidy, what is written here is no variable of it or in it
    pub no_index : (x : List ℕ) → IsTidy t → is_written_in t s b x ≡ true → m.head.parallel ≡ true → is_among x (loop_variables (Do m.head m.body)) ≡ false
    no_index x tidy written parallel = go (is_among x (loop_variables (Do m.head m.body))) refl
      where
        index : is_among x (loop_variables (Do m.head m.body)) ≡ true → IsIndexIn t n x
        index e = record { loop = m; among = e }

        go : (r : Bool) → is_among x (loop_variables (Do m.head m.body)) ≡ r → r ≡ false
        go true e = sym (written_round x written) ∙ (tidy n m parallel x (index e)).unwritten
        go false e = refl
