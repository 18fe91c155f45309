-- What names stand for in a program in which the second of two DO loops has the variable of the first: what they stood for, where they occur.
use Rattle.std.proofs.Common.{◌≡◌, ℕ, List, [], ◌∷◌, ◌++◌, Bool, true, false, ◌||◌, Option, None, Some, refl, sym, ap, subst, ◌∙◌, if◌then◌else◌}
use Rattle.std.specs.List.{flat_map}
use Rattle.std.proofs.lemmas.Bool.{both_ways, or_right}
use Rattle.ped_base.proofs.NameEquality.{same_is}
use Rattle.ped_base.specs.Lists.{is_among, is_same_text}
use Rattle.ped_tree.proofs.NameLaws.Collected.{among_append}
use Rattle.ped_tree.specs.NamesIn.{cond_names, expr_names, head_names, saved_in, stmt_names, stmts_names}
use Rattle.ped_tree.specs.Tree.{Do, If, ProgramTree, StmtTrees, Var, more_stmts, no_stmts}
use Rattle.ped_rules.specs.ped_laws.proofs.FlowRunLaws.Names.{sorted_among}
use Rattle.ped_rules.specs.ped_steps.proofs.RunLaws.NamesAtSites.{stmts_at}
use Rattle.ped_rules.specs.ped_steps.proofs.RunLaws.SubstitutedNames.{in_stmts}
use Rattle.ped_rules.specs.ped_steps.proofs.RunLaws.LoopVariables.{variable_scalar}
use Rattle.ped_rules.specs.ped_steps.proofs.RunLaws.NamesKept.{occurs, occurs_append}
use Rattle.ped_rules.specs.ped_steps.proofs.RunLaws.ScalarNames.{scalar_occurs}
use Rattle.ped_rules.specs.ped_steps.specs.Replacing.{alone, followed}
use Rattle.ped_rules.specs.ped_steps.specs.Runs.Gaps.{Gap, at_front, filled, in_body, in_else, in_then, past}
use Rattle.ped_symbolic.specs.Substitution.{statements_substituted}
use Rattle.ped_rules.specs.ped_symbols.proofs.RightUseLaws.Quiet.{behind_append, said, said_stays, stmts_declare_nothing}
use Rattle.ped_rules.specs.ped_symbols.proofs.RightUseLaws.Whole.{names_occur, same_values}
use Rattle.ped_rules.specs.ped_symbols.specs.declared.symbols.Kind.{Kind}
use Rattle.ped_rules.specs.ped_symbols.specs.Kinds.{at_last, kind_among, kind_in, kind_of, names_of}
use Rattle.ped_rules.specs.ped_symbols.specs.NameRefusals.{at_first, behind_sites}
use Rattle.ped_rules.specs.ped_symbols.specs.RightUses.RightUses.{is_scalar, is_scalar_kind}
use Rattle.ped_rules.specs.ped_symbols.specs.Sites.{decl_sites, stmts_sites}
use Rattle.ped_rules.specs.ped_symbols.specs.declared.symbols.Kind.TheVariants as kinds
use Rattle.ped_rules.specs.ped_eval.specs.Outcomes.{bounds_of, live_names, setting_of}
use Rattle.ped_rules.proofs.NameLaws.UnnamedCells.{unsaved_name}
use Rattle.ped_splits.proofs.FuseFacts.{renamed, renamed_next, renamed_pair}
use Rattle.ped_splits.proofs.RenameFacts.{IsRenaming}
use Rattle.ped_splits.proofs.RenameGaps.{next_loop}
use Rattle.ped_splits.specs.Neighbours.{Neighbour, next_number}

-- names in statements that fill a gap
module _ (y : List ℕ) where
  among_both : (xs ys us vs : List (List ℕ)) → is_among y xs ≡ is_among y us → is_among y ys ≡ is_among y vs → is_among y (xs ++ ys) ≡ is_among y (us ++ vs)
  among_both xs ys us vs h k = among_append y xs ys ∙ (λ i. h i || k i) ∙ sym (among_append y us vs)

  followed_both : (xs us rest : StmtTrees) → is_among y (stmts_names xs) ≡ is_among y (stmts_names us) → is_among y (stmts_names (followed xs rest)) ≡ is_among y (stmts_names (followed us rest))
  followed_both xs us rest h = followed_names xs ∙ ap (λ (b : Bool). b || is_among y (stmts_names rest)) h ∙ sym (followed_names us)
    where
      or_assoc : (a b c : Bool) → a || (b || c) ≡ (a || b) || c
      or_assoc true b c = refl
      or_assoc false b c = refl

      followed_names : (zs : StmtTrees) → is_among y (stmts_names (followed zs rest)) ≡ is_among y (stmts_names zs) || is_among y (stmts_names rest)
      followed_names no_stmts = refl
      followed_names (more_stmts z zs) =
          among_append y (stmt_names z) (stmts_names (followed zs rest)) ∙ ap (λ (b : Bool). is_among y (stmt_names z) || b) (followed_names zs)
          ∙ or_assoc (is_among y (stmt_names z)) (is_among y (stmts_names zs)) (is_among y (stmts_names rest))
          ∙ ap (λ (b : Bool). b || is_among y (stmts_names rest)) (sym (among_append y (stmt_names z) (stmts_names zs)))

  behind_both : (zs xs us : StmtTrees) → is_among y (stmts_names xs) ≡ is_among y (stmts_names us) → is_among y (stmts_names (followed zs xs)) ≡ is_among y (stmts_names (followed zs us))
  behind_both no_stmts xs us h = h
  behind_both (more_stmts z zs) xs us h = among_both (stmt_names z) (stmts_names (followed zs xs)) (stmt_names z) (stmts_names (followed zs us)) refl (behind_both zs xs us h)

  module _ (old new : StmtTrees) (same : is_among y (stmts_names new) ≡ is_among y (stmts_names old)) where
    names_filled : (gap : Gap) → is_among y (stmts_names (filled gap new)) ≡ is_among y (stmts_names (filled gap old))
    names_filled (at_front rest) = followed_both new old rest same
    names_filled (past z gap) = among_both (stmt_names z) (stmts_names (filled gap new)) (stmt_names z) (stmts_names (filled gap old)) refl (names_filled gap)
    names_filled (in_then c gap other rest) =
        among_both (stmt_names (If c (filled gap new) other)) (stmts_names rest) (stmt_names (If c (filled gap old) other)) (stmts_names rest)
        (among_both (cond_names c ++ stmts_names (filled gap new)) (stmts_names other) (cond_names c ++ stmts_names (filled gap old)) (stmts_names other)
        (among_both (cond_names c) (stmts_names (filled gap new)) (cond_names c) (stmts_names (filled gap old)) refl (names_filled gap)) refl) refl
    names_filled (in_else c other gap rest) =
        among_both (stmt_names (If c other (filled gap new))) (stmts_names rest) (stmt_names (If c other (filled gap old))) (stmts_names rest)
        (among_both (cond_names c ++ stmts_names other) (stmts_names (filled gap new)) (cond_names c ++ stmts_names other) (stmts_names (filled gap old)) refl (names_filled gap)) refl
    names_filled (in_body h gap rest) =
        among_both (stmt_names (Do h (filled gap new))) (stmts_names rest) (stmt_names (Do h (filled gap old))) (stmts_names rest)
        (among_both (head_names h) (stmts_names (filled gap new)) (head_names h) (stmts_names (filled gap old)) refl (names_filled gap)) refl

-- all that the declarations say is what stands behind their sites
last_said : (t : ProgramTree) → said (at_last t) ≡ said (behind_sites at_first (flat_map decl_sites t.decls))
last_said t = ap said (behind_append at_first (flat_map decl_sites t.decls) (stmts_sites t.body)) ∙ said_stays (behind_sites at_first (flat_map decl_sites t.decls)) (stmts_sites t.body) (stmts_declare_nothing t.body)

module _ (t : ProgramTree) (s : ℕ) (x : Neighbour t s) (r : IsRenaming t s x) where
  abbrev u : ProgramTree
  u = renamed x

  abbrev I : List ℕ
  I = x.own.variable

  abbrev J : List ℕ
  J = x.next.variable

  same_kind_of : (y : List ℕ) → kind_of u y ≡ kind_of t y
  same_kind_of y = let same = last_said u ∙ sym (last_said t) in λ i. kind_among (same i).0 (same i).1 y

  kinds_by : (y : List ℕ) → is_among y (names_of u) ≡ is_among y (names_of t) → kind_in u y ≡ kind_in t y
  kinds_by y names i = if names i then Some (same_kind_of y i) else None

  -- names but the one that may go
  module _ (y : List ℕ) (apart : is_same_text y J ≡ false) where
    own_there : (b : Bool) → is_same_text y I ≡ b → b ≡ true → is_among y (stmt_names (Do x.own x.own_body)) ≡ true
    own_there b e h =
        among_append y (head_names x.own) (stmts_names x.own_body)
        ∙ ap (λ (c : Bool). c || is_among y (stmts_names x.own_body)) (among_append y x.own.rejected (I ∷ (expr_names x.own.first ++ expr_names x.own.last ++ expr_names x.own.step ++ x.own.private))
        ∙ (λ i. is_among y x.own.rejected || ((e ∙ h) i || is_among y (expr_names x.own.first ++ expr_names x.own.last ++ expr_names x.own.step ++ x.own.private))) ∙ or_right (is_among y x.own.rejected) true refl)

    substituted_names : is_same_text y I ≡ false → is_among y (stmts_names (statements_substituted J (Var I) x.next_body)) ≡ is_among y (stmts_names x.next_body)
    substituted_names e = in_stmts J (Var I) y apart (λ i. e i || false) x.next_body

    next_names : is_same_text y I ≡ false → is_among y (stmt_names (renamed_next x)) ≡ is_among y (stmt_names (Do x.next x.next_body))
    next_names e =
        let rest = expr_names x.next.first ++ expr_names x.next.last ++ expr_names x.next.step ++ x.next.private in
        among_both y (head_names (record x.next { variable = I })) (stmts_names (if is_same_text I J then x.next_body else statements_substituted J (Var I) x.next_body)) (head_names x.next) (stmts_names x.next_body)
        (among_both y x.next.rejected (I ∷ rest) x.next.rejected (J ∷ rest) refl (λ i. (e ∙ sym apart) i || is_among y rest))
        (ap (λ (b : Bool). is_among y (stmts_names (if b then x.next_body else statements_substituted J (Var I) x.next_body))) r.differ ∙ substituted_names e)

    pair_names : (b : Bool) → is_same_text y I ≡ b → is_among y (stmts_names (renamed_pair x)) ≡ is_among y (stmts_names (more_stmts (Do x.own x.own_body) (followed x.between (alone (Do x.next x.next_body)))))
    pair_names true e =
        among_append y (stmt_names (Do x.own x.own_body)) (stmts_names (followed x.between (alone (renamed_next x))))
        ∙ ap (λ (c : Bool). c || is_among y (stmts_names (followed x.between (alone (renamed_next x))))) (own_there true e refl)
        ∙ sym (among_append y (stmt_names (Do x.own x.own_body)) (stmts_names (followed x.between (alone (Do x.next x.next_body))))
        ∙ ap (λ (c : Bool). c || is_among y (stmts_names (followed x.between (alone (Do x.next x.next_body))))) (own_there true e refl))
    pair_names false e =
        among_both y (stmt_names (Do x.own x.own_body)) (stmts_names (followed x.between (alone (renamed_next x)))) (stmt_names (Do x.own x.own_body)) (stmts_names (followed x.between (alone (Do x.next x.next_body)))) refl
        (behind_both y x.between (alone (renamed_next x)) (alone (Do x.next x.next_body)) (among_both y (stmt_names (renamed_next x)) [] (stmt_names (Do x.next x.next_body)) [] (next_names e) refl))

    whole_names : is_among y (stmts_names u.body) ≡ is_among y (stmts_names t.body)
    whole_names = names_filled y (more_stmts (Do x.own x.own_body) (followed x.between (alone (Do x.next x.next_body)))) (renamed_pair x) (pair_names (is_same_text y I) refl) x.gap ∙ ap (λ (ts : StmtTrees). is_among y (stmts_names ts)) (sym x.stands)

    of_program : (v : ProgramTree) → is_among y (names_of v) ≡ occurs y (flat_map decl_sites v.decls) || is_among y (stmts_names v.body)
    of_program v =
        names_occur v y ∙ occurs_append y (flat_map decl_sites v.decls) (stmts_sites v.body)
        ∙ ap (λ (b : Bool). occurs y (flat_map decl_sites v.decls) || b) (ap (is_among y) (stmts_at v.body))

    same_names : is_among y (names_of u) ≡ is_among y (names_of t)
    same_names = of_program u ∙ ap (λ (b : Bool). occurs y (flat_map decl_sites t.decls) || b) whole_names ∙ sym (of_program t)

  J_scalar : is_scalar (kind_in t) J ≡ true
  J_scalar = variable_scalar t r.valid (next_number x) (next_loop x)

  J_there : is_among J (names_of t) ≡ true
  J_there = scalar_occurs t J J_scalar

  no_bounds : (o : Option Kind) → is_scalar_kind o ≡ true → bounds_of o ≡ bounds_of None
  no_bounds None h = refl
  no_bounds (Some kinds.Scalar) h = refl
  no_bounds (Some (kinds.Array d)) h = absurd cc
  no_bounds (Some (kinds.Constant n)) h = refl

  same_bounds : (y : List ℕ) (b : Bool) → is_same_text y J ≡ b → bounds_of (kind_in u y) ≡ bounds_of (kind_in t y)
  same_bounds y false e = ap bounds_of (kinds_by y (same_names y e))
  same_bounds y true e = subst (λ (z : List ℕ). bounds_of (kind_in u z) ≡ bounds_of (kind_in t z)) (sym (same_is y J e)) (go (is_among J (names_of u)) refl)
    where
      go : (b : Bool) → is_among J (names_of u) ≡ b → bounds_of (kind_in u J) ≡ bounds_of (kind_in t J)
      go true h = ap bounds_of (kinds_by J (h ∙ sym J_there))
      go false h = ap (λ (b : Bool). bounds_of (if b then Some (kind_of u J) else None)) h ∙ sym (no_bounds (kind_in t J) J_scalar)

  -- both programs are run by one setting
  pub renamed_setting : setting_of (renamed x) ≡ setting_of t
  renamed_setting = λ i. record { bounds = λ y. same_bounds y (is_same_text y J) refl i; constants = same_values t u refl i; number = λ n. n }

  -- and what is saved stands for the same
  pub renamed_live : (y : List ℕ) → is_among y (live_names t) ≡ true → kind_in (renamed x) y ≡ kind_in t y
  renamed_live y live = by (is_same_text y J) refl
    where
      saved : is_among y (flat_map saved_in t.decls) ≡ true
      saved = sym (sorted_among y (flat_map saved_in t.decls)) ∙ live

      there : (b : Bool) → is_among y (names_of u) ≡ b → b ≡ true
      there true h = refl
      there false h = absurd (both_ways (is_among y (flat_map saved_in t.decls)) (unsaved_name u y h) saved)

      there_so : is_among y (names_of u) ≡ true
      there_so = there (is_among y (names_of u)) refl

      by : (b : Bool) → is_same_text y J ≡ b → kind_in u y ≡ kind_in t y
      by false e = kinds_by y (same_names y e)
      by true e = kinds_by y (there_so ∙ sym (ap (λ (z : List ℕ). is_among z (names_of t)) (same_is y J e) ∙ J_there))
