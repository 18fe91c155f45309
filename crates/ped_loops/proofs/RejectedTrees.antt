-- A program in which a DO has one more name in its directives: it fits as it did, and its sites are refused as they were.
use Rattle.std.proofs.Common.{◌≡◌, ℕ, suc, ◌+◌, ◌<◌, List, [], ◌∷◌, ◌++◌, map, drop, filter, cond, length, length-append, Bool, true, false, not, ◌&&◌, ◌||◌, ◌==◌, nat_le, IsTrue, refl, sym, subst, ap, ap₂, ◌∙◌, arith, eqb-true, if◌then◌else◌}
use Rattle.std.specs.Prelude.{nat_lt}
use Rattle.std.specs.List.{list_any, list_all, flat_map}
use Rattle.std.proofs.lemmas.List.{map-append, append_assoc, append-nil}
use Rattle.std.proofs.lemmas.Bool.{both_ways}
use Rattle.ped_base.specs.Lists.{is_among, is_same_text, has_some}
use Rattle.ped_base.proofs.NameEquality.{same_flip}
use Rattle.ped_tree.specs.Tree.{Head, StmtTree, StmtTrees, Assign, If, Do, Print, Read, Stop, Comment, no_stmts, more_stmts, ProgramTree}
use Rattle.ped_tree.specs.Accesses.{Access, own_accesses, constant_names}
use Rattle.ped_tree.specs.Nests.{Loop, indices_of, common_nest}
use Rattle.ped_tree.specs.Numbering.{statement_count, statements_count}
use Rattle.ped_tree.specs.Grammar.LimitNumbers.{most_loops_nested, most_blocks_nested}
use Rattle.ped_tree.specs.Grammar.Words.{is_name}
use Rattle.ped_tree.specs.Grammar.Fits.{decls_fit, Surroundings, moved, in_if, in_loop, is_within, private_fits, expr_fits, cond_fits, stmt_fits, stmts_fit, begins_with_statement, at_body, fits}
use Rattle.ped_tree.specs.Grammar.Refusal.{Finding, RealName, DeclaredTwice, NotConstant, RankDiffers, BoundsEmpty, StorageLimit, refused_if}
use Rattle.ped_refs.specs.References.{Reference, numbered_accesses, references, statement_references, statements_references, is_pair, pair_count}
use Rattle.ped_refs.specs.PairLimit.{references_until, is_within_pair_limit}
use Rattle.ped_rules.specs.ped_symbols.specs.declared.uses.Role.TheVariants.{Rejected, Index}
use Rattle.ped_rules.specs.ped_symbols.specs.declared.uses.Use.{Use}
use Rattle.ped_rules.specs.ped_symbols.specs.Uses.{used_as, expr_uses}
use Rattle.ped_rules.specs.ped_symbols.specs.Sites.{Site, declaration, statement, private_names, private_site, stmt_sites, stmts_sites, decl_sites, program_sites, site_uses}
use Rattle.ped_rules.specs.ped_symbols.specs.Declarations.{Declared, declared_in, is_real, is_constant, is_program}
use Rattle.ped_rules.specs.ped_symbols.specs.Values.{stmt_fails, site_fails, site_is_empty}
use Rattle.ped_rules.specs.ped_symbols.specs.StorageLimits.{has_many_pairs}
use Rattle.ped_rules.specs.ped_symbols.specs.NameRefusals.{uses_real, uses_constant, uses_program, dimensions_intrinsic, uses_other_rank, has_twice, Before, behind_site, is_declared_twice, at_site, next_line, at_first, at_sites, IsValid}
use Rattle.ped_rules.specs.ped_steps.specs.Replacing.{alone, followed, replaced, all_replaced}
use Rattle.ped_rules.specs.OnlyLoops.{on_loop}

module _ (x : List ℕ) (sought : ℕ) where
  -- the names with this one behind them, where it isn't among them
  abbrev pub with_last : List (List ℕ) → List (List ℕ)
  with_last names = if is_among x names then names else names ++ x ∷ []

  abbrev pub rejected_at : ℕ → List (List ℕ) → List (List ℕ)
  rejected_at n names = if n == sought then with_last names else names

  abbrev pub head_at : ℕ → Head → Head
  head_at n h = record h { rejected = rejected_at n h.rejected }

  abbrev pub more : Head → StmtTrees → StmtTrees
  more h body = alone (Do (record h { rejected = with_last h.rejected }) body)

  -- each statement in its place
  abbrev mutual
    pub marked : StmtTree → ℕ → StmtTree
    marked (Assign left right) n = Assign left right
    marked (If c a b) n = If c (all_marked a (n + 1)) (all_marked b (n + 1 + statements_count a))
    marked (Do h body) n = Do (head_at n h) (all_marked body (n + 1))
    marked (Print items) n = Print items
    marked (Read items) n = Read items
    marked Stop n = Stop
    marked (Comment text) n = Comment text

    pub all_marked : StmtTrees → ℕ → StmtTrees
    all_marked no_stmts n = no_stmts
    all_marked (more_stmts s rest) n = more_stmts (marked s n) (all_marked rest (n + statement_count s))

  other : (n : ℕ) (h : Head) → (n == sought) ≡ false → head_at n h ≡ h
  other n h e = ap (λ (b : Bool). record h { rejected = if b then with_last h.rejected else h.rejected }) e

  behind : (n : ℕ) → sought < n → (n == sought) ≡ false
  behind n lt = by (n == sought) refl
    where
      by : (b : Bool) → (n == sought) ≡ b → (n == sought) ≡ false
      by true e = let same = eqb-true n sought e in absurd (omega (arith, lt, same))
      by false e = e

  mutual
    above : (s : StmtTree) (n : ℕ) → sought < n → marked s n ≡ s
    above (Assign left right) n lt = refl
    above (If c a b) n lt = ap₂ (λ (p q : StmtTrees). If c p q) (all_above a (n + 1) (omega (arith, lt))) (all_above b (n + 1 + statements_count a) (omega (arith, lt)))
    above (Do h body) n lt = ap₂ (λ (g : Head) (p : StmtTrees). Do g p) (other n h (behind n lt)) (all_above body (n + 1) (omega (arith, lt)))
    above (Print items) n lt = refl
    above (Read items) n lt = refl
    above Stop n lt = refl
    above (Comment text) n lt = refl

    all_above : (ss : StmtTrees) (n : ℕ) → sought < n → all_marked ss n ≡ ss
    all_above no_stmts n lt = refl
    all_above (more_stmts s rest) n lt = ap₂ (λ (p : StmtTree) (q : StmtTrees). more_stmts p q) (above s n lt) (all_above rest (n + statement_count s) (omega (arith, lt)))

  here : (n : ℕ) → (n == sought) ≡ true → sought < n + 1
  here n e = let same = eqb-true n sought e in omega (arith, same)

  far : (n m : ℕ) → (n == sought) ≡ true → sought < n + 1 + m
  far n m e = let same = eqb-true n sought e in omega (arith, same)

  choice : (n : ℕ) (a b c : StmtTrees) → ((n == sought) ≡ true → a ≡ c) → ((n == sought) ≡ false → b ≡ c) → (if n == sought then a else b) ≡ c
  choice n a b c h k = by (n == sought) refl
    where
      by : (r : Bool) → (n == sought) ≡ r → (if r then a else b) ≡ c
      by true e = h e
      by false e = k e

  mutual
    is_marked : (s : StmtTree) (n : ℕ) → replaced (on_loop more) sought s n ≡ alone (marked s n)
    is_marked (Assign left right) n = choice n _ _ _ (λ e. refl) (λ e. refl)
    is_marked (If c a b) n =
        choice n (alone (If c a b)) (alone (If c (all_replaced (on_loop more) sought a (n + 1)) (all_replaced (on_loop more) sought b (n + 1 + statements_count a)))) (alone (marked (If c a b) n))
        (λ e. sym (ap₂ (λ (p q : StmtTrees). alone (If c p q)) (all_above a (n + 1) (here n e)) (all_above b (n + 1 + statements_count a) (far n (statements_count a) e))))
        (λ e. ap₂ (λ (p q : StmtTrees). alone (If c p q)) (are_marked a (n + 1)) (are_marked b (n + 1 + statements_count a)))
    is_marked (Do h body) n =
        choice n (more h body) (alone (Do h (all_replaced (on_loop more) sought body (n + 1)))) (alone (marked (Do h body) n))
        (λ e. ap₂ (λ (b : Bool) (p : StmtTrees). alone (Do (record h { rejected = if b then with_last h.rejected else h.rejected }) p)) (sym e) (sym (all_above body (n + 1) (here n e))))
        (λ e. ap₂ (λ (g : Head) (p : StmtTrees). alone (Do g p)) (sym (other n h e)) (are_marked body (n + 1)))
    is_marked (Print items) n = choice n _ _ _ (λ e. refl) (λ e. refl)
    is_marked (Read items) n = choice n _ _ _ (λ e. refl) (λ e. refl)
    is_marked Stop n = choice n _ _ _ (λ e. refl) (λ e. refl)
    is_marked (Comment text) n = refl

    pub are_marked : (ss : StmtTrees) (n : ℕ) → all_replaced (on_loop more) sought ss n ≡ all_marked ss n
    are_marked no_stmts n = refl
    are_marked (more_stmts s rest) n = ap₂ followed (is_marked s n) (are_marked rest (n + statement_count s))

  mutual
    count_marked : (s : StmtTree) (n : ℕ) → statement_count (marked s n) ≡ statement_count s
    count_marked (Assign left right) n = refl
    count_marked (If c a b) n = ap₂ (λ (k m : ℕ). k + m + 1) (counts_marked a (n + 1)) (counts_marked b (n + 1 + statements_count a))
    count_marked (Do h body) n = ap (λ (k : ℕ). k + 1) (counts_marked body (n + 1))
    count_marked (Print items) n = refl
    count_marked (Read items) n = refl
    count_marked Stop n = refl
    count_marked (Comment text) n = refl

    counts_marked : (ss : StmtTrees) (n : ℕ) → statements_count (all_marked ss n) ≡ statements_count ss
    counts_marked no_stmts n = refl
    counts_marked (more_stmts s rest) n = ap₂ (λ (k m : ℕ). k + m) (count_marked s n) (counts_marked rest (n + statement_count s))

  -- a test of the names that one more name passes or fails as they do
  same_test : (F : List (List ℕ) → Bool) → ((names : List (List ℕ)) → is_among x names ≡ false → F (names ++ x ∷ []) ≡ F names) → (n : ℕ) (names : List (List ℕ)) → F (rejected_at n names) ≡ F names
  same_test F h n names = by (n == sought)
    where
      among : (b : Bool) → is_among x names ≡ b → F (if b then names else names ++ x ∷ []) ≡ F names
      among true e = refl
      among false e = h names e

      by : (b : Bool) → F (if b then with_last names else names) ≡ F names
      by true = among (is_among x names) refl
      by false = refl

  -- it fits
  module _ (name : is_name x ≡ true) where
    all_names : (names : List (List ℕ)) → list_all is_name (names ++ x ∷ []) ≡ list_all is_name names
    all_names [] = ap (λ (b : Bool). b && true) name
    all_names (y ∷ ys) = ap (λ (b : Bool). is_name y && b) (all_names ys)

    mutual
      fit_marked : (p : Surroundings) (s : StmtTree) (n : ℕ) → stmt_fits p (marked s n) ≡ stmt_fits p s
      fit_marked p (Assign left right) n = refl
      fit_marked p (If c a b) n =
          let first = fits_marked (in_if p 1) a (n + 1) in
          let second =
          ap (λ (k : ℕ). stmts_fit (in_if p (1 + k)) (all_marked b (n + 1 + statements_count a))) (counts_marked a (n + 1))
          ∙ fits_marked (in_if p (1 + statements_count a)) b (n + 1 + statements_count a) in
          ap₂ (λ (q r : Bool). is_within p (If c a b) && nat_lt p.depth most_blocks_nested && cond_fits c && q && r) first second
      fit_marked p (Do h body) n =
          let names = same_test (λ (xs : List (List ℕ)). list_all is_name xs) (λ xs e. all_names xs) n h.rejected in
          let inner = fits_marked (in_loop p h) body (n + 1) in
          ap₂ (λ (q r : Bool). (is_within p (Do h body)
          && is_name h.variable && expr_fits h.first && expr_fits h.last && expr_fits h.step
          && not (is_among h.variable p.variables) && not (is_among h.variable p.private)
          && nat_lt (length p.variables) most_loops_nested && nat_lt p.depth most_blocks_nested
          && private_fits p h
          && q) && r) names inner
      fit_marked p (Print items) n = refl
      fit_marked p (Read items) n = refl
      fit_marked p Stop n = refl
      fit_marked p (Comment text) n = refl

      fits_marked : (p : Surroundings) (ss : StmtTrees) (n : ℕ) → stmts_fit p (all_marked ss n) ≡ stmts_fit p ss
      fits_marked p no_stmts n = refl
      fits_marked p (more_stmts s rest) n =
          ap₂ (λ (q r : Bool). q && r) (fit_marked p s n)
          (ap (λ (k : ℕ). stmts_fit (moved p k) (all_marked rest (n + statement_count s))) (count_marked s n) ∙ fits_marked (moved p (statement_count s)) rest (n + statement_count s))

    begins_marked : (ss : StmtTrees) (n : ℕ) → begins_with_statement (all_marked ss n) ≡ begins_with_statement ss
    begins_marked no_stmts n = refl
    begins_marked (more_stmts (Assign left right) rest) n = refl
    begins_marked (more_stmts (If c a b) rest) n = refl
    begins_marked (more_stmts (Do h body) rest) n = refl
    begins_marked (more_stmts (Print items) rest) n = refl
    begins_marked (more_stmts (Read items) rest) n = refl
    begins_marked (more_stmts Stop rest) n = refl
    begins_marked (more_stmts (Comment text) rest) n = refl

    abbrev pub rejecting_tree : ProgramTree → ProgramTree
    rejecting_tree t = record { decls = t.decls; body = all_marked t.body 1 }

    pub fits_as_before : (t : ProgramTree) → fits (rejecting_tree t) ≡ fits t
    fits_as_before t = let inner = fits_marked (at_body t) t.body 1 in let first = begins_marked t.body 1 in ap₂ (λ (q r : Bool). decls_fit 0 t.decls && q && r) inner first

  -- its references are those that were, each in its place
  abbrev loop_at : Loop → Loop
  loop_at l = record { number = l.number; head = head_at l.number l.head }

  abbrev reference_at : Reference → Reference
  reference_at r = record { statement = r.statement; number = r.number; access = r.access; nest = map loop_at r.nest }

  indices_at : (nest : List Loop) → indices_of (map loop_at nest) ≡ indices_of nest
  indices_at [] = refl
  indices_at (l ∷ ls) = ap (λ (xs : List (List ℕ)). l.head.variable ∷ xs) (indices_at ls)

  numbered_at : (n k : ℕ) (nest : List Loop) (accesses : List Access) → numbered_accesses n k (map loop_at nest) accesses ≡ map reference_at (numbered_accesses n k nest accesses)
  numbered_at n k nest [] = refl
  numbered_at n k nest (a ∷ rest) = ap (λ (rs : List Reference). (record { statement = n; number = k; access = a; nest = map loop_at nest }) ∷ rs) (numbered_at n (suc k) nest rest)

  module _ (constants : List (List ℕ)) where
    own_at : (nest : List Loop) (n : ℕ) (s : StmtTree) → numbered_accesses n 1 (map loop_at nest) (own_accesses constants (indices_of (map loop_at nest)) s) ≡ map reference_at (numbered_accesses n 1 nest (own_accesses constants (indices_of nest) s))
    own_at nest n s = ap (λ (is : List (List ℕ)). numbered_accesses n 1 (map loop_at nest) (own_accesses constants is s)) (indices_at nest) ∙ numbered_at n 1 nest (own_accesses constants (indices_of nest) s)

    joined_at : (xs bs cs ds : List Reference) → xs ≡ map reference_at bs → cs ≡ map reference_at ds → xs ++ cs ≡ map reference_at (bs ++ ds)
    joined_at xs bs cs ds e f = ap₂ (λ (p q : List Reference). p ++ q) e f ∙ sym (map-append reference_at bs ds)

    mutual
      references_at : (nest : List Loop) (n : ℕ) (s : StmtTree) → statement_references constants (map loop_at nest) n (marked s n) ≡ map reference_at (statement_references constants nest n s)
      references_at nest n (Assign left right) = own_at nest n (Assign left right)
      references_at nest n (If c a b) =
          let third =
          ap (λ (k : ℕ). statements_references constants (map loop_at nest) (n + 1 + k) (all_marked b (n + 1 + statements_count a))) (counts_marked a (n + 1))
          ∙ all_references_at nest (n + 1 + statements_count a) b in
          joined_at _ _ _ _ (joined_at _ _ _ _ (own_at nest n (If c a b)) (all_references_at nest (n + 1) a)) third
      references_at nest n (Do h body) =
          let l : Loop = record { number = n; head = h } in
          let inner =
          ap (λ (ls : List Loop). statements_references constants ls (n + 1) (all_marked body (n + 1))) (sym (map-append loop_at nest (l ∷ [])))
          ∙ all_references_at (nest ++ l ∷ []) (n + 1) body in
          joined_at _ _ _ _ (own_at nest n (Do h body)) inner
      references_at nest n (Print items) = own_at nest n (Print items)
      references_at nest n (Read items) = own_at nest n (Read items)
      references_at nest n Stop = refl
      references_at nest n (Comment text) = refl

      all_references_at : (nest : List Loop) (n : ℕ) (ss : StmtTrees) → statements_references constants (map loop_at nest) n (all_marked ss n) ≡ map reference_at (statements_references constants nest n ss)
      all_references_at nest n no_stmts = refl
      all_references_at nest n (more_stmts s rest) =
          joined_at _ _ _ _ (references_at nest n s)
          (ap (λ (k : ℕ). statements_references constants (map loop_at nest) (n + k) (all_marked rest (n + statement_count s))) (count_marked s n) ∙ all_references_at nest (n + statement_count s) rest)

  -- and there are as many pairs of them
  common_at : (ls ms : List Loop) → has_some (common_nest (map loop_at ls) (map loop_at ms)) ≡ has_some (common_nest ls ms)
  common_at [] ms = refl
  common_at (l ∷ ls) [] = refl
  common_at (l ∷ ls) (m ∷ ms) = by (l.number == m.number)
    where
      by : (b : Bool) → has_some (if b then loop_at l ∷ common_nest (map loop_at ls) (map loop_at ms) else []) ≡ has_some (if b then l ∷ common_nest ls ms else [])
      by true = refl
      by false = refl

  pair_at : (a b : Reference) → is_pair (reference_at a) (reference_at b) ≡ is_pair a b
  pair_at a b = ap (λ (q : Bool). is_same_text a.access.name b.access.name && (a.access.writes || b.access.writes) && q) (common_at a.nest b.nest)

  filtered_at : (p q : Reference → Bool) (rs : List Reference) → ((r : Reference) → p (reference_at r) ≡ q r) → filter p (map reference_at rs) ≡ map reference_at (filter q rs)
  filtered_at p q [] h = refl
  filtered_at p q (r ∷ rs) h = ap (λ (b : Bool). cond b (reference_at r ∷ filter p (map reference_at rs)) (filter p (map reference_at rs))) (h r) ∙ by (q r) (filtered_at p q rs h)
    where
      by : (b : Bool) → filter p (map reference_at rs) ≡ map reference_at (filter q rs)
          → cond b (reference_at r ∷ filter p (map reference_at rs)) (filter p (map reference_at rs)) ≡ map reference_at (cond b (r ∷ filter q rs) (filter q rs))
      by true rest = ap (λ (xs : List Reference). reference_at r ∷ xs) rest
      by false rest = rest

  as_many : {X Y : Type 0} (f : X → Y) (xs : List X) → length (map f xs) ≡ length xs
  as_many f [] = refl
  as_many f (x ∷ xs) = ap suc (as_many f xs)

  sinks_at : (rs : List Reference) (a : Reference) → length {A = Reference × Reference} (map (λ sink. (reference_at a, sink)) (filter (is_pair (reference_at a)) (map reference_at rs))) ≡ length {A = Reference × Reference} (map (λ sink. (a, sink)) (filter (is_pair a) rs))
  sinks_at rs a =
      as_many {Y = Reference × Reference} (λ (sink : Reference). (reference_at a, sink)) (filter (is_pair (reference_at a)) (map reference_at rs))
      ∙ ap (λ (xs : List Reference). length xs) (filtered_at (is_pair (reference_at a)) (is_pair a) rs (λ b. pair_at a b))
      ∙ as_many reference_at (filter (is_pair a) rs)
      ∙ sym (as_many {Y = Reference × Reference} (λ (sink : Reference). (a, sink)) (filter (is_pair a) rs))

  sources_at : (f g : Reference → List (Reference × Reference)) → ((r : Reference) → length (f (reference_at r)) ≡ length (g r)) → (rs : List Reference) → length (flat_map f (map reference_at rs)) ≡ length (flat_map g rs)
  sources_at f g h [] = refl
  sources_at f g h (r ∷ rs) = length-append (f (reference_at r)) (flat_map f (map reference_at rs)) ∙ ap₂ (λ (k m : ℕ). k + m) (h r) (sources_at f g h rs) ∙ sym (length-append (g r) (flat_map g rs))

  pairs_at : (rs : List Reference) → pair_count (map reference_at rs) ≡ pair_count rs
  pairs_at rs = sources_at (λ source. map (λ (sink : Reference). (source, sink)) (filter (is_pair source) (map reference_at rs))) (λ source. map (λ sink. (source, sink)) (filter (is_pair source) rs)) (λ r. sinks_at rs r) rs

  many_at : (rs : List Reference) (number : ℕ) → has_many_pairs (map reference_at rs) number ≡ has_many_pairs rs number
  many_at rs number =
      ap (λ (xs : List Reference). not (is_within_pair_limit xs)) (filtered_at (λ r. nat_le r.statement number) (λ r. nat_le r.statement number) rs (λ r. refl))
      ∙ ap (λ (k : ℕ). not (nat_le k 200000)) (pairs_at (references_until number rs))

  -- its sites are refused as they were
  module _ (d : Declared) (refs : List Reference) (real : is_real d x ≡ false) (constant : is_constant d x ≡ false) (program : is_program d x ≡ false) where
    same_any : (P : Use → Bool) → P (used_as Rejected x) ≡ false → (rest : List Use) (n : ℕ) (names : List (List ℕ)) → list_any P (map (used_as Rejected) (rejected_at n names) ++ rest) ≡ list_any P (map (used_as Rejected) names ++ rest)
    same_any P fails rest = same_test (λ names. list_any P (map (used_as Rejected) names ++ rest)) (λ names e. one_more names)
      where
        one_more : (names : List (List ℕ)) → list_any P (map (used_as Rejected) (names ++ x ∷ []) ++ rest) ≡ list_any P (map (used_as Rejected) names ++ rest)
        one_more [] = ap (λ (b : Bool). b || list_any P rest) fails
        one_more (y ∷ ys) = ap (λ (b : Bool). P (used_as Rejected y) || b) (one_more ys)

    among_more : (y : List ℕ) (names : List (List ℕ)) → is_same_text y x ≡ false → is_among y (names ++ x ∷ []) ≡ is_among y names
    among_more y [] e = ap (λ (b : Bool). b || false) e
    among_more y (z ∷ zs) e = ap (λ (b : Bool). is_same_text y z || b) (among_more y zs e)

    twice_more : (names : List (List ℕ)) → is_among x names ≡ false → has_twice (names ++ x ∷ []) ≡ has_twice names
    twice_more [] e = refl
    twice_more (y ∷ ys) e = let parts = or_none (is_same_text x y) (is_among x ys) e in ap₂ (λ (p q : Bool). p || q) (among_more y ys (turned x y parts.0)) (twice_more ys parts.1)
      where
        or_none : (a b : Bool) → (a || b) ≡ false → (a ≡ false) × (b ≡ false)
        or_none true b e = absurd (both_ways true e refl)
        or_none false b e = (refl, e)

        turned : (u v : List ℕ) → is_same_text u v ≡ false → is_same_text v u ≡ false
        turned u v e = same_flip v u ∙ e

    same_twice : (n : ℕ) (names : List (List ℕ)) → has_twice (rejected_at n names) ≡ has_twice names
    same_twice = same_test has_twice twice_more

    at_statement : (b : Before) (line : ℕ) (s : StmtTree) (n : ℕ) → at_site d refs b line (statement (marked s n)) ≡ at_site d refs b line (statement s)
    at_statement b line (Assign left right) n = refl
    at_statement b line (If c p q) n = refl
    at_statement b line (Do h body) n =
        let rest = used_as Index h.variable ∷ (expr_uses h.first ++ expr_uses h.last ++ expr_uses h.step) in
        let reals = same_any (uses_real d) real rest n h.rejected in
        let constants = same_any (uses_constant d) constant rest n h.rejected in
        let programs = same_any (uses_program d) (ap (λ (q : Bool). q && not (is_constant d x)) program) rest n h.rejected in
        let intrinsics = same_any dimensions_intrinsic refl rest n h.rejected in
        let twice = same_twice n h.rejected in
        let ranks = same_any (uses_other_rank d) refl rest n h.rejected in
        λ i. refused_if (reals i) RealName line
        ++ refused_if (constants i || programs i || intrinsics i || twice i) DeclaredTwice line
        ++ refused_if (stmt_fails b.values (Do h body)) NotConstant line
        ++ refused_if (ranks i) RankDiffers line
        ++ refused_if false BoundsEmpty line
        ++ refused_if (has_many_pairs refs (b.statements + 1)) StorageLimit line
    at_statement b line (Print items) n = refl
    at_statement b line (Read items) n = refl
    at_statement b line Stop n = refl
    at_statement b line (Comment text) n = refl

    -- the sites behind others
    abbrev Alike : List Site → List Site → Type 0
    Alike p q = (b : Before) (lines : List ℕ) → at_sites d refs b lines p ≡ at_sites d refs b lines q

    alike_behind : (sites p q : List Site) → Alike p q → Alike (sites ++ p) (sites ++ q)
    alike_behind [] p q h = h
    alike_behind (s ∷ sites) p q h = λ b lines. ap (λ (fs : List Finding). at_site d refs b (next_line lines) s ++ fs) (alike_behind sites p q h (behind_site b s) (drop 1 lines))

    one_alike : (s : StmtTree) (n : ℕ) (p q : List Site) → Alike p q → Alike (statement (marked s n) ∷ p) (statement s ∷ q)
    one_alike s n p q h = λ b lines. ap₂ (λ (f g : List Finding). f ++ g) (at_statement b (next_line lines) s n) (h (behind_site b (statement s)) (drop 1 lines))

    by_shape : (p q r s : List Site) → p ≡ q → r ≡ s → Alike q s → Alike p r
    by_shape p q r s e f h = λ b lines. ap (at_sites d refs b lines) e ∙ h b lines ∙ sym (ap (at_sites d refs b lines) f)

    mutual
      sites_marked : (s : StmtTree) (n : ℕ) (p q : List Site) → Alike p q → Alike (stmt_sites (marked s n) ++ p) (stmt_sites s ++ q)
      sites_marked (Assign left right) n p q h = one_alike (Assign left right) n p q h
      sites_marked (If c a b) n p q h =
          one_alike (If c a b) n ((stmts_sites (all_marked a (n + 1)) ++ stmts_sites (all_marked b (n + 1 + statements_count a))) ++ p) ((stmts_sites a ++ stmts_sites b) ++ q)
          (by_shape _ _ _ _ (append_assoc (stmts_sites (all_marked a (n + 1))) (stmts_sites (all_marked b (n + 1 + statements_count a))) p) (append_assoc (stmts_sites a) (stmts_sites b) q)
          (all_sites_marked a (n + 1) _ _ (all_sites_marked b (n + 1 + statements_count a) p q h)))
      sites_marked (Do h body) n p q k =
          one_alike (Do h body) n ((private_site h.private ++ stmts_sites (all_marked body (n + 1))) ++ p) ((private_site h.private ++ stmts_sites body) ++ q)
          (by_shape _ _ _ _ (append_assoc (private_site h.private) (stmts_sites (all_marked body (n + 1))) p) (append_assoc (private_site h.private) (stmts_sites body) q)
          (alike_behind (private_site h.private) _ _ (all_sites_marked body (n + 1) p q k)))
      sites_marked (Print items) n p q h = one_alike (Print items) n p q h
      sites_marked (Read items) n p q h = one_alike (Read items) n p q h
      sites_marked Stop n p q h = one_alike Stop n p q h
      sites_marked (Comment text) n p q h = h

      all_sites_marked : (ss : StmtTrees) (n : ℕ) (p q : List Site) → Alike p q → Alike (stmts_sites (all_marked ss n) ++ p) (stmts_sites ss ++ q)
      all_sites_marked no_stmts n p q h = h
      all_sites_marked (more_stmts s rest) n p q h =
          by_shape _ _ _ _ (append_assoc (stmt_sites (marked s n)) (stmts_sites (all_marked rest (n + statement_count s))) p) (append_assoc (stmt_sites s) (stmts_sites rest) q)
          (sites_marked s n _ _ (all_sites_marked rest (n + statement_count s) p q h))

  -- and whatever number of references there is
  many_sites : (d : Declared) (refs others : List Reference) → ((k : ℕ) → has_many_pairs refs k ≡ has_many_pairs others k) → (b : Before) (lines : List ℕ) (sites : List Site) → at_sites d refs b lines sites ≡ at_sites d others b lines sites
  many_sites d refs others h b lines [] = refl
  many_sites d refs others h b lines (s ∷ rest) = ap₂ (λ (f g : List Finding). f ++ g) (one s) (many_sites d refs others h (behind_site b s) (drop 1 lines) rest)
    where
      one : (s : Site) → at_site d refs b (next_line lines) s ≡ at_site d others b (next_line lines) s
      one (declaration x) = refl
      one (statement x) =
          ap (λ (q : Bool). refused_if (list_any (uses_real d) (site_uses (statement x))) RealName (next_line lines)
          ++ refused_if (is_declared_twice d b.uses (statement x)) DeclaredTwice (next_line lines)
          ++ refused_if (site_fails b.values (statement x)) NotConstant (next_line lines)
          ++ refused_if (list_any (uses_other_rank d) (site_uses (statement x))) RankDiffers (next_line lines)
          ++ refused_if (site_is_empty b.values (statement x)) BoundsEmpty (next_line lines)
          ++ refused_if q StorageLimit (next_line lines)) (h (b.statements + 1))
      one (private_names x) = refl

  pub valid_as_before : (t : ProgramTree) → is_name x ≡ true → is_real (declared_in t.decls) x ≡ false → is_constant (declared_in t.decls) x ≡ false → is_program (declared_in t.decls) x ≡ false → IsValid t → IsValid (record { decls = t.decls; body = all_marked t.body 1 })
  valid_as_before t name real constant program v = record {
    fits = subst IsTrue (sym (fits_as_before name t)) v.fits;
    names =
        many_sites (declared_in t.decls) (references (rejecting_tree name t)) (references t) (λ k. ap (λ (rs : List Reference). has_many_pairs rs k) (all_references_at (constant_names t.decls) [] 1 t.body) ∙ many_at (references t) k) at_first [] (program_sites (rejecting_tree name t))
        ∙ alike_behind (declared_in t.decls) (references t) real constant program (flat_map decl_sites t.decls) (stmts_sites (all_marked t.body 1)) (stmts_sites t.body)
        (by_shape (declared_in t.decls) (references t) real constant program _ _ _ _ (sym (append-nil (stmts_sites (all_marked t.body 1)))) (sym (append-nil (stmts_sites t.body))) (all_sites_marked (declared_in t.decls) (references t) real constant program t.body 1 [] [] (λ b lines. refl))) at_first []
        ∙ v.names;
  }
