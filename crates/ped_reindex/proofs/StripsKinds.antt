-- What names stand for in a program in which the iterations of a DO are done in strips: what they stood for, but for the new variable.
use Rattle.std.proofs.Common.{Bool, List, None, Some, [], ap, append-nil, false, if◌then◌else◌, map, pos, refl, subst, sym, true, ℕ, ℤ, ◌++◌, ◌||◌, ◌∙◌, ◌≡◌, ◌≤◌}
use Rattle.std.specs.List.{flat_map}
use Rattle.ped_base.specs.Lists.{is_among, is_same_text}
use Rattle.ped_rules.specs.ped_loop_runs.proofs.LoopLaws.OneForOneNames.{constant_there}
use Rattle.ped_rules.proofs.HeadLaws.HeadNames.{among_both, head_uses, literal_unnamed, names_in, unnamed}
use Rattle.ped_rules.proofs.NestLaws.WovenKinds.{in_both, in_loop, occurs_in}
use Rattle.ped_rules.specs.ped_steps.proofs.RunLaws.LoopVariables.{variable_scalar}
use Rattle.ped_rules.specs.ped_steps.proofs.RunLaws.NamesKept.{Alike, AreAlike, alike_itself, by_sites, names_kept, occurs}
use Rattle.ped_rules.specs.ped_steps.proofs.RunLaws.ScalarNames.{scalar_occurs, statement_in}
use Rattle.ped_rules.specs.ped_steps.specs.Replacing.{alone, program_with}
use Rattle.ped_rules.specs.ped_flow.specs.Questions.{LoopOf}
use Rattle.ped_rules.specs.ped_symbols.proofs.RightUseLaws.Quiet.{behind_append, said, said_stays, stmts_declare_nothing}
use Rattle.ped_rules.specs.ped_symbols.proofs.RightUseLaws.Whole.{others_unvalued}
use Rattle.ped_rules.specs.ped_symbols.specs.Kinds.{at_last, kind_among, kind_in, names_of}
use Rattle.ped_rules.specs.ped_symbols.specs.NameRefusals.{IsValid, at_first, behind_sites}
use Rattle.ped_rules.specs.ped_symbols.specs.Sites.{decl_sites, stmt_sites, stmts_sites}
use Rattle.ped_rules.specs.ped_symbols.specs.Uses.{expr_uses, used_as}
use Rattle.ped_rules.specs.ped_symbols.specs.declared.uses.Role.TheVariants.{Rejected}
use Rattle.ped_reindex.proofs.StripsBounds.{end_is}
use Rattle.ped_reindex.specs.Stripping.{strip_end, strip_head, strips_head, with_strips}
use Rattle.ped_tree.specs.Accesses.{constant_names}
use Rattle.ped_tree.specs.Constants.ConstantExpressions.{constant_value}
use Rattle.ped_tree.specs.Numbering.{statement_with}
use Rattle.ped_tree.specs.Tree.{DeclTree, Do, ExprTree, Head, ProgramTree, StmtTree, StmtTrees, no_stmts}

-- all that the declarations say is what stands behind their sites
last_said : (t : ProgramTree) → said (at_last t) ≡ said (behind_sites at_first (flat_map decl_sites t.decls))
last_said t = ap said (behind_append at_first (flat_map decl_sites t.decls) (stmts_sites t.body)) ∙ said_stays (behind_sites at_first (flat_map decl_sites t.decls)) (stmts_sites t.body) (stmts_declare_nothing t.body)

same_said : (t u : ProgramTree) → u.decls ≡ t.decls → said (at_last u) ≡ said (at_last t)
same_said t u e = last_said u ∙ ap (λ (ds : List DeclTree). said (behind_sites at_first (flat_map decl_sites ds))) e ∙ sym (last_said t)

-- so a name that occurs in both stands for the same
kind_alike : (t u : ProgramTree) → u.decls ≡ t.decls → (y : List ℕ) → is_among y (names_of u) ≡ is_among y (names_of t) → kind_in u y ≡ kind_in t y
kind_alike t u e y names = λ i. if names i then Some (kind_among (same_said t u e i).0 (same_said t u e i).1 y) else None

arranged : (r v f l : Bool) → (false || (false || ((f || l) || false))) || (r || (v || ((false || (false || (l || false))) || false))) ≡ r || (v || ((f || l) || false))
arranged true true true true = refl
arranged true true true false = refl
arranged true true false true = refl
arranged true true false false = refl
arranged true false true true = refl
arranged true false true false = refl
arranged true false false true = refl
arranged true false false false = refl
arranged false true true true = refl
arranged false true true false = refl
arranged false true false true = refl
arranged false true false false = refl
arranged false false true true = refl
arranged false false true false = refl
arranged false false false true = refl
arranged false false false false = refl

module _ (t : ProgramTree) (valid : IsValid t) (l : ℕ) (loop : LoopOf t l) (K : ℕ) (some : 2 ≤ K) (w : List ℕ) (private : loop.head.private ≡ []) (m : ℤ) (step : constant_value (at_last t).values loop.head.step ≡ Some m) where
  abbrev d : Head
  d = loop.head

  abbrev h : Head
  h = strips_head (pos K) w loop.head

  abbrev g : Head
  g = strip_head (pos K) w loop.head

  abbrev by : StmtTree → StmtTrees
  by s = with_strips (pos K) w loop.head loop.body

  module _ (y : List ℕ) (apart : is_same_text y w ≡ false) where
    -- the new heads have the names of the old one, but for the new variable and the named constants in the increment
    heads : is_among y (constant_names t.decls) ≡ false → occurs_in y h || occurs_in y g ≡ occurs_in y d
    heads other =
        (λ i. over i || in_one i)
        ∙ arranged (is_among y (names_in (map (used_as Rejected) d.rejected))) (is_same_text y d.variable) (is_among y (names_in (expr_uses d.first))) (is_among y (names_in (expr_uses d.last)))
        ∙ sym (head_uses y d no_stmts ∙ (λ i. is_among y (names_in (map (used_as Rejected) d.rejected)) || (is_same_text y d.variable || ((is_among y (names_in (expr_uses d.first)) || is_among y (names_in (expr_uses d.last))) || no_step i))))
      where
        no_step : is_among y (names_in (expr_uses d.step)) ≡ false
        no_step = unnamed (at_last t).values y (others_unvalued t y other) d.step m step

        over : occurs_in y h ≡ false || (false || ((is_among y (names_in (expr_uses d.first)) || is_among y (names_in (expr_uses d.last))) || false))
        over = head_uses y h no_stmts ∙ (λ i. false || (apart i || ((is_among y (names_in (expr_uses d.first)) || is_among y (names_in (expr_uses d.last))) || literal_unnamed y (pos K) i)))

        end_unnamed : is_among y (names_in (expr_uses (strip_end (pos K) w))) ≡ false
        end_unnamed = ap (λ (e : ExprTree). is_among y (names_in (expr_uses e))) (end_is K w some) ∙ (λ i. apart i || false)

        limit : is_among y (names_in (expr_uses g.last)) ≡ false || (is_among y (names_in (expr_uses d.last)) || false)
        limit =
            among_both y (expr_uses (strip_end (pos K) w)) (expr_uses d.last ++ [])
            ∙ (λ i. end_unnamed i || among_both y (expr_uses d.last) [] i)

        in_one : occurs_in y g ≡ is_among y (names_in (map (used_as Rejected) d.rejected)) || (is_same_text y d.variable || ((false || (false || (is_among y (names_in (expr_uses d.last)) || false))) || false))
        in_one = head_uses y g no_stmts ∙ (λ i. is_among y (names_in (map (used_as Rejected) d.rejected)) || (is_same_text y d.variable || (((apart i || false) || limit i) || false)))

    occurs_alike : is_among y (constant_names t.decls) ≡ false → occurs y (stmt_sites (Do h (alone (Do g loop.body)))) ≡ occurs y (stmt_sites (Do d loop.body))
    occurs_alike other =
        in_both y h g (alone (Do g loop.body)) loop.body refl refl private
        ∙ ap (λ (b : Bool). b || occurs y (stmts_sites loop.body)) (heads other)
        ∙ sym (in_loop y d loop.body private)

    sites_alike : is_among y (constant_names t.decls) ≡ false → AreAlike d.variable y (stmts_sites (alone (Do h (alone (Do g loop.body))))) (stmt_sites (Do d loop.body))
    sites_alike other =
        by_sites d.variable y (stmt_sites (Do h (alone (Do g loop.body))) ++ []) (stmt_sites (Do h (alone (Do g loop.body)))) (stmt_sites (Do d loop.body)) (append-nil (stmt_sites (Do h (alone (Do g loop.body)))))
        (subst (λ (b : Bool). Alike (is_same_text y d.variable) b (occurs y (stmt_sites (Do d loop.body)))) (sym (occurs_alike other)) (alike_itself (is_same_text y d.variable) (occurs y (stmt_sites (Do d loop.body)))))

    of_it : is_among y (constant_names t.decls) ≡ false → (old : StmtTree) → statement_with l t ≡ Some old → AreAlike d.variable y (stmts_sites (by old)) (stmt_sites old)
    of_it other old there =
        let is : Do d loop.body ≡ old = ap (statement_in (Do d loop.body)) (sym loop.is ∙ there) in
        subst (λ (z : StmtTree). AreAlike d.variable y (stmts_sites (alone (Do h (alone (Do g loop.body))))) (stmt_sites z)) is (sites_alike other)

    same_names : (b : Bool) → is_among y (constant_names t.decls) ≡ b → is_among y (names_of (program_with by l t)) ≡ is_among y (names_of t)
    same_names true named = constant_there y (program_with by l t) named ∙ sym (constant_there y t named)
    same_names false other = names_kept d.variable y by l t (of_it other) (scalar_occurs t d.variable (variable_scalar t valid l loop))

    pub strip_kinds : kind_in (program_with (λ s. with_strips (pos K) w loop.head loop.body) l t) y ≡ kind_in t y
    strip_kinds = kind_alike t (program_with by l t) refl y (same_names (is_among y (constant_names t.decls)) refl)
