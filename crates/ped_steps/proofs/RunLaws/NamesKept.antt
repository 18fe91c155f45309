-- Which names occur where one statement has been exchanged for others.
use Rattle.std.proofs.Common.{◌≡◌, ℕ, ◌+◌, List, [], ◌∷◌, ◌++◌, map, Bool, true, false, Some, eqb-true, refl, sym, ap, subst, ◌∙◌, append_assoc, append-nil, arith, if◌then◌else◌}
use Rattle.std.specs.Prelude.{◌||◌, ◌==◌}
use Rattle.std.specs.List.{flat_map}
use Rattle.std.proofs.lemmas.List.{map-append}
use Rattle.std.proofs.lemmas.Grind.{flat_map-append}
use Rattle.std.proofs.lemmas.Bool.{or_right}
use Rattle.ped_base.specs.Lists.{is_same_text, is_among}
use Rattle.ped_tree.specs.Tree.{StmtTree, StmtTrees, Assign, If, Do, Print, Read, Stop, Comment, no_stmts, more_stmts, ProgramTree}
use Rattle.ped_tree.specs.Numbering.{statement_count, statements_count, numbered, all_numbered, statement_with}
use Rattle.ped_tree.proofs.NameLaws.Collected.{among_append}
use Rattle.ped_base.proofs.NameEquality.{same_is}
use Rattle.ped_weaves.specs.ped_graph.specs.ped_symbols.specs.declared.uses.Use.{Use}
use Rattle.ped_weaves.specs.ped_graph.specs.ped_symbols.specs.Sites.{Site, statement, decl_sites, private_site, stmt_sites, stmts_sites, program_sites, site_uses}
use Rattle.ped_weaves.specs.ped_graph.specs.ped_symbols.specs.Kinds.{names_at, names_of}
use Rattle.ped_weaves.specs.ped_graph.specs.ped_symbols.proofs.RightUseLaws.Whole.{names_occur}
use Rattle.ped_weaves.specs.ped_laws.proofs.FlowRunLaws.Standing.{Stand, whole_stands, first_stands, rest_stands, inner_stands, else_stands, is_there}
use Rattle.ped_steps.specs.Replacing.{followed, alone, replaced, all_replaced, program_with}

-- the name occurs at one of these sites
abbrev pub occurs : List ℕ → List Site → Bool
occurs y sites = is_among y (names_at sites)

pub occurs_append : (y : List ℕ) (xs ys : List Site) → occurs y (xs ++ ys) ≡ occurs y xs || occurs y ys
occurs_append y xs ys =
    ap (λ (us : List Use). is_among y (map (λ (u : Use). u.name) us)) (flat_map-append site_uses xs ys)
    ∙ ap (is_among y) (map-append (λ (u : Use). u.name) (flat_map site_uses xs) (flat_map site_uses ys))
    ∙ among_append y (names_at xs) (names_at ys)

pub sites_followed : (a b : StmtTrees) → stmts_sites (followed a b) ≡ stmts_sites a ++ stmts_sites b
sites_followed no_stmts b = refl
sites_followed (more_stmts s a) b = ap (λ (xs : List Site). stmt_sites s ++ xs) (sites_followed a b) ∙ sym (append_assoc (stmt_sites s) (stmts_sites a) (stmts_sites b))

number_is : (n l : ℕ) → (n == l) ≡ true → n ≡ l
number_is n l e = grind (arith, e, eqb-true)

-- alike but for one name, and nothing is lost
pub record Alike (e new old : Bool) : Type 0 where
  pub but : new || e ≡ old || e
  pub kept : old ≡ true → new ≡ true

pub alike_itself : (e a : Bool) → Alike e a a
alike_itself e a = record { but = refl; kept = λ h. h }

or_false : (r : Bool) → r || false ≡ r
or_false true = refl
or_false false = refl

both_alike : (e a b c d : Bool) → Alike e a b → Alike e c d → Alike e (a || c) (b || d)
both_alike e a b c d p q = record { but = go e p.but q.but; kept = λ h. more b h }
  where
    plain : (r s : Bool) → r || false ≡ s || false → r ≡ s
    plain r s h = sym (or_false r) ∙ h ∙ or_false s

    go : (e : Bool) → a || e ≡ b || e → c || e ≡ d || e → (a || c) || e ≡ (b || d) || e
    go true h k = or_right (a || c) true refl ∙ sym (or_right (b || d) true refl)
    go false h k = λ i. (plain a b h i || plain c d k i) || false

    more_by : (r : Bool) → r ≡ b → r || d ≡ true → a || c ≡ true
    more_by true w h = ap (λ (z : Bool). z || c) (p.kept (sym w))
    more_by false w h = ap (λ (z : Bool). a || z) (q.kept h) ∙ or_right a true refl

    more : (r : Bool) → b || d ≡ true → a || c ≡ true
    more r h = more_by b refl h

module _ (x : List ℕ) (y : List ℕ) where
  abbrev pub AreAlike : List Site → List Site → Type 0
  AreAlike xs ys = Alike (is_same_text y x) (occurs y xs) (occurs y ys)

  pub same_alike : (xs : List Site) → AreAlike xs xs
  same_alike xs = alike_itself (is_same_text y x) (occurs y xs)

  pub by_sites : (xs us ys : List Site) → xs ≡ us → AreAlike us ys → AreAlike xs ys
  by_sites xs us ys q h = subst (λ (zs : List Site). AreAlike zs ys) (sym q) h

  pub append_alike : (xs us ys vs : List Site) → AreAlike xs us → AreAlike ys vs → AreAlike (xs ++ ys) (us ++ vs)
  append_alike xs us ys vs h k =
      subst (λ (b : Bool). Alike (is_same_text y x) b (occurs y (us ++ vs))) (sym (occurs_append y xs ys))
      (subst (λ (b : Bool). Alike (is_same_text y x) (occurs y xs || occurs y ys) b) (sym (occurs_append y us vs)) (both_alike (is_same_text y x) (occurs y xs) (occurs y us) (occurs y ys) (occurs y vs) h k))

  module _ (by : StmtTree → StmtTrees) (l : ℕ) (t : ProgramTree) (of_it : (s : StmtTree) → statement_with l t ≡ Some s → AreAlike (stmts_sites (by s)) (stmt_sites s)) where
    -- the statement with number n, exchanged or not
    here : (s : StmtTree) (xs : List StmtTree) (n : ℕ) (other : StmtTrees) → Stand t n (s ∷ xs) → AreAlike (stmts_sites other) (stmt_sites s) → (b : Bool) → (n == l) ≡ b → AreAlike (stmts_sites (if b then by s else other)) (stmt_sites s)
    here s xs n other st h true e = of_it s (ap (λ (k : ℕ). statement_with k t) (sym (number_is n l e)) ∙ is_there t s xs n st)
    here s xs n other st h false e = h

    alone_alike : (s old : StmtTree) → AreAlike (stmt_sites s) (stmt_sites old) → AreAlike (stmts_sites (alone s)) (stmt_sites old)
    alone_alike s old h = by_sites (stmt_sites s ++ []) (stmt_sites s) (stmt_sites old) (append-nil (stmt_sites s)) h

    mutual
      replaced_alike : (s : StmtTree) (n : ℕ) → Stand t n (numbered s) → AreAlike (stmts_sites (replaced by l s n)) (stmt_sites s)
      replaced_alike (Assign left right) n st = here (Assign left right) [] n (alone (Assign left right)) st (same_alike (stmt_sites (Assign left right))) (n == l) refl
      replaced_alike (If c a b) n st =
          let inside = inner_stands t (If c a b) (all_numbered a ++ all_numbered b) n st in
          let of_a = all_alike a (n + 1) (first_stands t (n + 1) (all_numbered a) (all_numbered b) inside) in
          let of_b = all_alike b (n + 1 + statements_count a) (else_stands t a b (n + 1) inside) in
          let new_a = all_replaced by l a (n + 1) in
          let new_b = all_replaced by l b (n + 1 + statements_count a) in
          here (If c a b) (all_numbered a ++ all_numbered b) n (alone (If c new_a new_b)) st
          (alone_alike (If c new_a new_b) (If c a b) (append_alike (statement (If c new_a new_b) ∷ []) (statement (If c a b) ∷ []) (stmts_sites new_a ++ stmts_sites new_b) (stmts_sites a ++ stmts_sites b) (alike_itself _ _)
          (append_alike (stmts_sites new_a) (stmts_sites a) (stmts_sites new_b) (stmts_sites b) of_a of_b)))
          (n == l) refl
      replaced_alike (Do h b) n st =
          let of_b = all_alike b (n + 1) (inner_stands t (Do h b) (all_numbered b) n st) in
          let new_b = all_replaced by l b (n + 1) in
          here (Do h b) (all_numbered b) n (alone (Do h new_b)) st
          (alone_alike (Do h new_b) (Do h b) (append_alike (statement (Do h new_b) ∷ []) (statement (Do h b) ∷ []) (private_site h.private ++ stmts_sites new_b) (private_site h.private ++ stmts_sites b) (alike_itself _ _)
          (append_alike (private_site h.private) (private_site h.private) (stmts_sites new_b) (stmts_sites b) (same_alike (private_site h.private)) of_b)))
          (n == l) refl
      replaced_alike (Print items) n st = here (Print items) [] n (alone (Print items)) st (same_alike (stmt_sites (Print items))) (n == l) refl
      replaced_alike (Read items) n st = here (Read items) [] n (alone (Read items)) st (same_alike (stmt_sites (Read items))) (n == l) refl
      replaced_alike Stop n st = here Stop [] n (alone Stop) st (same_alike (stmt_sites Stop)) (n == l) refl
      replaced_alike (Comment text) n st = same_alike []

      all_alike : (ss : StmtTrees) (n : ℕ) → Stand t n (all_numbered ss) → AreAlike (stmts_sites (all_replaced by l ss n)) (stmts_sites ss)
      all_alike no_stmts n st = same_alike []
      all_alike (more_stmts s rest) n st =
          by_sites (stmts_sites (followed (replaced by l s n) (all_replaced by l rest (n + statement_count s)))) (stmts_sites (replaced by l s n) ++ stmts_sites (all_replaced by l rest (n + statement_count s))) (stmt_sites s ++ stmts_sites rest)
          (sites_followed (replaced by l s n) (all_replaced by l rest (n + statement_count s)))
          (append_alike (stmts_sites (replaced by l s n)) (stmt_sites s) (stmts_sites (all_replaced by l rest (n + statement_count s))) (stmts_sites rest)
          (replaced_alike s n (first_stands t n (numbered s) (all_numbered rest) st)) (all_alike rest (n + statement_count s) (rest_stands t s rest n st)))

    whole_alike : AreAlike (program_sites (program_with by l t)) (program_sites t)
    whole_alike = append_alike (flat_map decl_sites t.decls) (flat_map decl_sites t.decls) (stmts_sites (all_replaced by l t.body 1)) (stmts_sites t.body) (same_alike (flat_map decl_sites t.decls)) (all_alike t.body 1 (whole_stands t))

    -- where the name occurs, the same names occur
    pub names_kept : is_among x (names_of t) ≡ true → is_among y (names_of (program_with by l t)) ≡ is_among y (names_of t)
    names_kept there = names_occur (program_with by l t) y ∙ go (is_same_text y x) refl whole_alike.but ∙ sym (names_occur t y)
      where
        go : (e : Bool) → is_same_text y x ≡ e → occurs y (program_sites (program_with by l t)) || e ≡ occurs y (program_sites t) || e → occurs y (program_sites (program_with by l t)) ≡ occurs y (program_sites t)
        go true q h =
            let old : occurs y (program_sites t) ≡ true = ap (λ (z : List ℕ). occurs z (program_sites t)) (same_is y x q) ∙ sym (names_occur t x) ∙ there in
            whole_alike.kept old ∙ sym old
        go false q h = sym (or_false (occurs y (program_sites (program_with by l t)))) ∙ h ∙ or_false (occurs y (program_sites t))
