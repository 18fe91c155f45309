-- The references in the body of a DO, among those of the program: they have the numbers of the statements there.
use Rattle.std.proofs.Common.{◌≡◌, ℕ, suc, ◌+◌, ◌≤◌, ◌<◌, List, [], ◌∷◌, ◌++◌, Bool, true, false, ◌&&◌, ◌||◌, Some, inl, inr, refl, sym, ap, ◌∙◌, arith}
use Rattle.std.specs.Prelude.{nat_lt}
use Rattle.std.specs.List.{list_any}
use Rattle.std.proofs.lemmas.Bool.{cases_lt, cases_eq, lt-ltb, or_from}
use Rattle.std.proofs.lemmas.Bool.Decides.{nat_tests}
use Rattle.std.proofs.lemmas.List.Folds.{list_any-append}
use Rattle.ped_tree.specs.Tree.{Head, StmtTree, StmtTrees, Assign, If, Do, Print, Read, Stop, Comment, no_stmts, more_stmts, ProgramTree}
use Rattle.ped_tree.specs.Numbering.{statement_count, statements_count, numbered, all_numbered, statement_with}
use Rattle.ped_tree.specs.Accesses.{Access, own_accesses, constant_names}
use Rattle.ped_tree.specs.Nests.{Loop, indices_of}
use Rattle.ped_refs.specs.References.{Reference, numbered_accesses, statement_references, statements_references, references}
use Rattle.ped_loop_runs.specs.ped_laws.proofs.FlowRunLaws.Standing.{Stand, whole_stands, first_stands, rest_stands, inner_stands, else_stands, is_there}

or_front : (a b : Bool) → b ≡ false → (a || b) ≡ a
or_front true b h = refl
or_front false b h = h

-- a test of references whose statements lie behind one number and before another
module _ (s end : ℕ) (constants : List (List ℕ)) where
  abbrev inside : ℕ → Bool
  inside k = nat_lt s k && nat_lt k end

  abbrev pub there : (Reference → Bool) → Reference → Bool
  there test r = inside r.statement && test r

  own_there : (test : Reference → Bool) (v : Bool) (n number : ℕ) (nest : List Loop) (accesses : List Access) → inside n ≡ v
      → list_any (there test) (numbered_accesses n number nest accesses) ≡ list_any (λ r. v && test r) (numbered_accesses n number nest accesses)
  own_there test v n number nest [] e = refl
  own_there test v n number nest (a ∷ rest) e =
      let r : Reference = record { statement = n; number = number; access = a; nest = nest } in
      λ i. (e i && test r) || own_there test v n (suc number) nest rest e i

  both_there : (test : Reference → Bool) (v : Bool) (p q : List Reference) → list_any (there test) p ≡ list_any (λ r. v && test r) p → list_any (there test) q ≡ list_any (λ r. v && test r) q
      → list_any (there test) (p ++ q) ≡ list_any (λ r. v && test r) (p ++ q)
  both_there test v p q h k = list_any-append (there test) p q ∙ (λ i. h i || k i) ∙ sym (list_any-append (λ r. v && test r) p q)

  -- each of these numbers lies there, or none does
  abbrev Each : Bool → ℕ → ℕ → Type 0
  Each v n count = (k : ℕ) → n ≤ k → k < n + count → inside k ≡ v

  mutual
    all_there : (test : Reference → Bool) (v : Bool) (x : StmtTree) (n : ℕ) (nest : List Loop) → Each v n (statement_count x) → list_any (there test) (statement_references constants nest n x) ≡ list_any (λ r. v && test r) (statement_references constants nest n x)
    all_there test v (Assign left right) n nest h = own_there test v n 1 nest (own_accesses constants (indices_of nest) (Assign left right)) (h n (omega arith) (omega arith))
    all_there test v (If c a b) n nest h =
        let mine = numbered_accesses n 1 nest (own_accesses constants (indices_of nest) (If c a b)) in
        let first = statements_references constants nest (n + 1) a in
        let second = statements_references constants nest (n + 1 + statements_count a) b in
        both_there test v (mine ++ first) second
        (both_there test v mine first (own_there test v n 1 nest (own_accesses constants (indices_of nest) (If c a b)) (h n (omega arith) (omega arith)))
        (all_of_all_there test v a (n + 1) nest (λ k from to. h k (omega (arith, from)) (omega (arith, to)))))
        (all_of_all_there test v b (n + 1 + statements_count a) nest (λ k from to. h k (omega (arith, from)) (omega (arith, to))))
    all_there test v (Do g b) n nest h =
        let round : List Loop = nest ++ (record { number = n; head = g }) ∷ [] in
        both_there test v (numbered_accesses n 1 nest (own_accesses constants (indices_of nest) (Do g b))) (statements_references constants round (n + 1) b)
        (own_there test v n 1 nest (own_accesses constants (indices_of nest) (Do g b)) (h n (omega arith) (omega arith)))
        (all_of_all_there test v b (n + 1) round (λ k from to. h k (omega (arith, from)) (omega (arith, to))))
    all_there test v (Print items) n nest h = own_there test v n 1 nest (own_accesses constants (indices_of nest) (Print items)) (h n (omega arith) (omega arith))
    all_there test v (Read items) n nest h = own_there test v n 1 nest (own_accesses constants (indices_of nest) (Read items)) (h n (omega arith) (omega arith))
    all_there test v Stop n nest h = refl
    all_there test v (Comment text) n nest h = refl

    all_of_all_there : (test : Reference → Bool) (v : Bool) (xs : StmtTrees) (n : ℕ) (nest : List Loop) → Each v n (statements_count xs)
        → list_any (there test) (statements_references constants nest n xs) ≡ list_any (λ r. v && test r) (statements_references constants nest n xs)
    all_of_all_there test v no_stmts n nest h = refl
    all_of_all_there test v (more_stmts x rest) n nest h =
        both_there test v (statement_references constants nest n x) (statements_references constants nest (n + statement_count x) rest)
        (all_there test v x n nest (λ k from to. h k from (omega (arith, to))))
        (all_of_all_there test v rest (n + statement_count x) nest (λ k from to. h k (omega (arith, from)) (omega (arith, to))))

  never : (test : Reference → Bool) (refs : List Reference) → list_any (λ r. false && test r) refs ≡ false
  never test [] = refl
  never test (r ∷ rest) = never test rest

  before_none : (k : ℕ) → k ≤ s → inside k ≡ false
  before_none k h = grind (arith, nat_tests, h)

  behind_none : (k : ℕ) → end ≤ k → inside k ≡ false
  behind_none k h = grind (arith, nat_tests, h)

  between_all : (k : ℕ) → s < k → k < end → inside k ≡ true
  between_all k h e = λ i. lt-ltb s k h i && lt-ltb k end e i

  own_none : (test : Reference → Bool) (n : ℕ) (nest : List Loop) (accesses : List Access) → n ≤ s → list_any (there test) (numbered_accesses n 1 nest accesses) ≡ false
  own_none test n nest accesses h = own_there test false n 1 nest accesses (before_none n h) ∙ never test (numbered_accesses n 1 nest accesses)

  none_before : (test : Reference → Bool) (x : StmtTree) (n : ℕ) (nest : List Loop) → n + statement_count x ≤ s → list_any (there test) (statement_references constants nest n x) ≡ false
  none_before test x n nest h = all_there test false x n nest (λ k from to. before_none k (omega (arith, h, to))) ∙ never test (statement_references constants nest n x)

  all_none_before : (test : Reference → Bool) (xs : StmtTrees) (n : ℕ) (nest : List Loop) → n + statements_count xs ≤ s → list_any (there test) (statements_references constants nest n xs) ≡ false
  all_none_before test xs n nest h = all_of_all_there test false xs n nest (λ k from to. before_none k (omega (arith, h, to))) ∙ never test (statements_references constants nest n xs)

  all_none_behind : (test : Reference → Bool) (xs : StmtTrees) (n : ℕ) (nest : List Loop) → end ≤ n → list_any (there test) (statements_references constants nest n xs) ≡ false
  all_none_behind test xs n nest h = all_of_all_there test false xs n nest (λ k from to. behind_none k (omega (arith, h, from))) ∙ never test (statements_references constants nest n xs)

  all_between : (test : Reference → Bool) (xs : StmtTrees) (n : ℕ) (nest : List Loop) → s < n → n + statements_count xs ≤ end → list_any (there test) (statements_references constants nest n xs) ≡ list_any test (statements_references constants nest n xs)
  all_between test xs n nest h e = all_of_all_there test true xs n nest (λ k from to. between_all k (omega (arith, h, from)) (omega (arith, e, to)))

-- the DO with a number
module _ (t : ProgramTree) (s : ℕ) (h : Head) (b : StmtTrees) (is : statement_with s t ≡ Some (Do h b)) where
  abbrev end : ℕ
  end = s + (statements_count b + 1)

  abbrev constants : List (List ℕ)
  constants = constant_names t.decls

  body_is : (g : Head) (c : StmtTrees) → Some (Do g c) ≡ Some (Do h b) → c ≡ b
  body_is g c e = cc

  -- a statement with this number is this DO
  same : (x : StmtTree) (xs : List StmtTree) (n : ℕ) → Stand t n (x ∷ xs) → n ≡ s → Some x ≡ Some (Do h b)
  same x xs n st e = sym (is_there t x xs n st) ∙ ap (λ (k : ℕ). statement_with k t) e ∙ is

  at_itself : (n : ℕ) → n ≤ s → s < n + 1 → n ≡ s
  at_itself n from to = omega (arith, from, to)

  -- where it stands in a statement it ends there
  mutual
    pub ends_within : (x : StmtTree) (n : ℕ) → Stand t n (numbered x) → n ≤ s → s < n + statement_count x → end ≤ n + statement_count x
    ends_within (Assign left right) n st from to = let e : Some (Assign left right) ≡ Some (Do h b) = same (Assign left right) [] n st (at_itself n from to) in absurd cc
    ends_within (If c p q) n st from to = elim (cases_eq n s) [
      | inl e ↦ (let d : Some (If c p q) ≡ Some (Do h b) = same (If c p q) (all_numbered p ++ all_numbered q) n st e in absurd cc)
      | inr apart ↦ (let inner = inner_stands t (If c p q) (all_numbered p ++ all_numbered q) n st in
          elim (cases_lt s (n + 1 + statements_count p)) [
            | inl less ↦ (let k = all_end_within p (n + 1) (first_stands t (n + 1) (all_numbered p) (all_numbered q) inner) (omega (arith, from, apart)) less in omega (arith, k))
            | inr more ↦ (let k = all_end_within q (n + 1 + statements_count p) (else_stands t p q (n + 1) inner) more (omega (arith, to)) in omega (arith, k))
          ])
    ]
    ends_within (Do g c) n st from to = elim (cases_eq n s) [
      | inl e ↦ (let k = ap statements_count (body_is g c (same (Do g c) (all_numbered c) n st e)) in omega (arith, k, e))
      | inr apart ↦ (let k = all_end_within c (n + 1) (inner_stands t (Do g c) (all_numbered c) n st) (omega (arith, from, apart)) (omega (arith, to)) in omega (arith, k))
    ]
    ends_within (Print items) n st from to = let e : Some (Print items) ≡ Some (Do h b) = same (Print items) [] n st (at_itself n from to) in absurd cc
    ends_within (Read items) n st from to = let e : Some (Read items) ≡ Some (Do h b) = same (Read items) [] n st (at_itself n from to) in absurd cc
    ends_within Stop n st from to = let e : Some Stop ≡ Some (Do h b) = same Stop [] n st (at_itself n from to) in absurd cc
    ends_within (Comment text) n st from to = absurd (omega (arith, from, to))

    pub all_end_within : (xs : StmtTrees) (n : ℕ) → Stand t n (all_numbered xs) → n ≤ s → s < n + statements_count xs → end ≤ n + statements_count xs
    all_end_within no_stmts n st from to = absurd (omega (arith, from, to))
    all_end_within (more_stmts x rest) n st from to = elim (cases_lt s (n + statement_count x)) [
      | inl less ↦ (let k = ends_within x n (first_stands t n (numbered x) (all_numbered rest) st) from less in omega (arith, k))
      | inr more ↦ (let k = all_end_within rest (n + statement_count x) (rest_stands t x rest n st) more (omega (arith, to)) in omega (arith, k))
    ]

  -- the references in its body, with the DO loops round it
  pub record AreThere (refs : List Reference) : Type 0 where
    pub nest : List Loop
    pub tested : (test : Reference → Bool) → list_any (there s end constants test) refs ≡ list_any test (statements_references constants nest (s + 1) b)

  abbrev Without : List Reference → Type 0
  Without refs = (test : Reference → Bool) → list_any (there s end constants test) refs ≡ false

  front_there : (p q : List Reference) → AreThere p → Without q → AreThere (p ++ q)
  front_there p q k none = record {
    nest = k.nest;
    tested = λ test. list_any-append (there s end constants test) p q ∙ or_front (list_any (there s end constants test) p) (list_any (there s end constants test) q) (none test) ∙ k.tested test;
  }

  back_there : (p q : List Reference) → Without p → AreThere q → AreThere (p ++ q)
  back_there p q none k = record {
    nest = k.nest;
    tested = λ test. list_any-append (there s end constants test) p q ∙ ap (λ (z : Bool). z || list_any (there s end constants test) q) (none test) ∙ k.tested test;
  }

  without_both : (p q : List Reference) → Without p → Without q → Without (p ++ q)
  without_both p q h k test = list_any-append (there s end constants test) p q ∙ or_from (list_any (there s end constants test) p) (list_any (there s end constants test) q) (h test) (k test)

  abbrev own : ℕ → List Loop → StmtTree → List Reference
  own n nest x = numbered_accesses n 1 nest (own_accesses constants (indices_of nest) x)

  own_without : (n : ℕ) (nest : List Loop) (x : StmtTree) → n ≤ s → Without (own n nest x)
  own_without n nest x from test = own_none s end constants test n nest (own_accesses constants (indices_of nest) x) from

  mutual
    found : (x : StmtTree) (n : ℕ) (nest : List Loop) → Stand t n (numbered x) → n ≤ s → s < n + statement_count x → AreThere (statement_references constants nest n x)
    found (Assign left right) n nest st from to = let e : Some (Assign left right) ≡ Some (Do h b) = same (Assign left right) [] n st (at_itself n from to) in absurd cc
    found (If c p q) n nest st from to =
        let inner = inner_stands t (If c p q) (all_numbered p ++ all_numbered q) n st in
        let mine = own n nest (If c p q) in
        let first = statements_references constants nest (n + 1) p in
        let second = statements_references constants nest (n + 1 + statements_count p) q in
        elim (cases_eq n s) [
          | inl e ↦ (let d : Some (If c p q) ≡ Some (Do h b) = same (If c p q) (all_numbered p ++ all_numbered q) n st e in absurd cc)
          | inr apart ↦ elim (cases_lt s (n + 1 + statements_count p)) [
            | inl less ↦
                let stands = first_stands t (n + 1) (all_numbered p) (all_numbered q) inner in
                let after : n + 1 ≤ s = omega (arith, from, apart) in
                front_there (mine ++ first) second (back_there mine first (own_without n nest (If c p q) from) (all_found p (n + 1) nest stands after less))
                (λ test. all_none_behind s end constants test q (n + 1 + statements_count p) nest (all_end_within p (n + 1) stands after less))
            | inr more ↦
                back_there (mine ++ first) second (without_both mine first (own_without n nest (If c p q) from) (λ test. all_none_before s end constants test p (n + 1) nest more))
                (all_found q (n + 1 + statements_count p) nest (else_stands t p q (n + 1) inner) more (omega (arith, to)))
          ]
        ]
    found (Do g c) n nest st from to =
        let round : List Loop = nest ++ (record { number = n; head = g }) ∷ [] in
        back_there (own n nest (Do g c)) (statements_references constants round (n + 1) c) (own_without n nest (Do g c) from)
        (elim (cases_eq n s) [
          | inl e ↦
              let same_body : c ≡ b = body_is g c (same (Do g c) (all_numbered c) n st e) in
              let counts = ap statements_count same_body in
              record {
                nest = round;
                tested = λ test. all_between s end constants test c (n + 1) round (omega (arith, e)) (omega (arith, e, counts)) ∙ λ i. list_any test (statements_references constants round (e i + 1) (same_body i));
              }
          | inr apart ↦ all_found c (n + 1) round (inner_stands t (Do g c) (all_numbered c) n st) (omega (arith, from, apart)) (omega (arith, to))
        ])
    found (Print items) n nest st from to = let e : Some (Print items) ≡ Some (Do h b) = same (Print items) [] n st (at_itself n from to) in absurd cc
    found (Read items) n nest st from to = let e : Some (Read items) ≡ Some (Do h b) = same (Read items) [] n st (at_itself n from to) in absurd cc
    found Stop n nest st from to = let e : Some Stop ≡ Some (Do h b) = same Stop [] n st (at_itself n from to) in absurd cc
    found (Comment text) n nest st from to = absurd (omega (arith, from, to))

    all_found : (xs : StmtTrees) (n : ℕ) (nest : List Loop) → Stand t n (all_numbered xs) → n ≤ s → s < n + statements_count xs → AreThere (statements_references constants nest n xs)
    all_found no_stmts n nest st from to = absurd (omega (arith, from, to))
    all_found (more_stmts x rest) n nest st from to =
        let first = statement_references constants nest n x in
        let second = statements_references constants nest (n + statement_count x) rest in
        let stands = first_stands t n (numbered x) (all_numbered rest) st in
        elim (cases_lt s (n + statement_count x)) [
          | inl less ↦ front_there first second (found x n nest stands from less) (λ test. all_none_behind s end constants test rest (n + statement_count x) nest (ends_within x n stands from less))
          | inr more ↦ back_there first second (λ test. none_before s end constants test x n nest more) (all_found rest (n + statement_count x) nest (rest_stands t x rest n st) more (omega (arith, to)))
        ]

  -- the references of the program there
  pub references_there : 1 ≤ s → s < 1 + statements_count t.body → AreThere (references t)
  references_there from to = all_found t.body 1 [] (whole_stands t) from to
