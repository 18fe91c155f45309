-- What names stand for in a program in which an iteration of a DO is peeled off: all that they stood for.
use Rattle.ped_base.specs.Lists.{is_among, is_same_text}
use Rattle.ped_rules.specs.ped_loop_runs.proofs.LoopLaws.OneForOneNames.{constant_there}
use Rattle.ped_rules.specs.ped_steps.proofs.RunLaws.NamesAtSites.{stmt_at, stmts_at}
use Rattle.ped_rules.specs.ped_steps.proofs.RunLaws.SubstitutedNames.{in_stmts}
use Rattle.ped_rules.specs.ped_steps.proofs.RunLaws.LoopVariables.{variable_scalar}
use Rattle.ped_rules.specs.ped_steps.proofs.RunLaws.NamesKept.{Alike, AreAlike, names_kept, occurs}
use Rattle.ped_rules.specs.ped_steps.proofs.RunLaws.ScalarNames.{scalar_occurs, statement_in}
use Rattle.ped_rules.specs.ped_steps.specs.Replacing.{followed, program_with}
use Rattle.ped_rules.specs.ped_flow.specs.Questions.{LoopOf}
use Rattle.ped_symbolic.specs.Arithmetic.{literal}
use Rattle.ped_rules.specs.ped_symbols.proofs.RightUseLaws.Whole.{others_unvalued, same_kinds}
use Rattle.ped_rules.specs.ped_symbols.specs.Kinds.{kind_in, names_of, table_of}
use Rattle.ped_rules.specs.ped_symbols.specs.NameRefusals.{IsValid}
use Rattle.ped_rules.specs.ped_symbols.specs.Sites.{stmt_sites, stmts_sites}
use Rattle.ped_reindex.proofs.PeelCounts.{HasSpan}
use Rattle.ped_reindex.proofs.PeelTrusted.{again, left_head, peeled_tells}
use Rattle.ped_reindex.specs.Peeling.{Peeled, iteration_of, with_peeled}
use Rattle.ped_tree.proofs.NameLaws.Collected.{among_append}
use Rattle.ped_tree.specs.Accesses.{constant_names}
use Rattle.ped_tree.specs.Constants.NamedConstants.{value_named}
use Rattle.ped_tree.specs.NamesIn.{expr_names, head_names, stmt_names, stmts_names}
use Rattle.ped_tree.specs.Numbering.{statement_with}
use Rattle.ped_tree.specs.Tree.{Do, Head, Int, Neg, ProgramTree, StmtTree, StmtTrees, more_stmts, no_stmts}
use Rattle.std.proofs.Common.{Bool, List, None, Some, ap, false, if◌then◌else◌, refl, subst, sym, true, unsigned_abs, ℕ, ℤ, ◌++◌, ◌||◌, ◌∙◌, ◌∷◌, ◌≡◌}
use Rattle.std.specs.Int.{is_negative}
use Rattle.std.proofs.lemmas.Bool.{or_right}
use Rattle.ped_rules.proofs.NameLaws.ConstantNames.{unnamed}

-- names among statements, and in a head
names_followed : (y : List ℕ) (a b : StmtTrees) → is_among y (stmts_names (followed a b)) ≡ is_among y (stmts_names a) || is_among y (stmts_names b)
names_followed y no_stmts b = refl
names_followed y (more_stmts s rest) b =
    among_append y (stmt_names s) (stmts_names (followed rest b)) ∙ ap (λ (r : Bool). is_among y (stmt_names s) || r) (names_followed y rest b)
    ∙ grouped (is_among y (stmt_names s)) (is_among y (stmts_names rest)) (is_among y (stmts_names b)) ∙ ap (λ (r : Bool). r || is_among y (stmts_names b)) (sym (among_append y (stmt_names s) (stmts_names rest)))
  where
    grouped : (p q r : Bool) → p || (q || r) ≡ (p || q) || r
    grouped true q r = refl
    grouped false q r = refl

in_head : (y : List ℕ) (h : Head) → is_among y (head_names h) ≡ is_among y h.rejected || (is_same_text y h.variable || (((is_among y (expr_names h.first) || is_among y (expr_names h.last)) || is_among y (expr_names h.step)) || is_among y h.private))
in_head y h =
    among_append y h.rejected (h.variable ∷ (expr_names h.first ++ expr_names h.last ++ expr_names h.step ++ h.private))
    ∙ ap (λ (b : Bool). is_among y h.rejected || (is_same_text y h.variable || b))
    (among_append y (expr_names h.first ++ expr_names h.last ++ expr_names h.step) h.private
    ∙ ap (λ (b : Bool). b || is_among y h.private) (among_append y (expr_names h.first ++ expr_names h.last) (expr_names h.step)
    ∙ ap (λ (b : Bool). b || is_among y (expr_names h.step)) (among_append y (expr_names h.first) (expr_names h.last))))

absent_literal : (y : List ℕ) (n : ℤ) → is_among y (expr_names (literal n)) ≡ false
absent_literal y n = go (is_negative n)
  where
    go : (b : Bool) → is_among y (expr_names (if b then Neg (Int (unsigned_abs n)) else Int (unsigned_abs n))) ≡ false
    go true = refl
    go false = refl

module _ (t : ProgramTree) (valid : IsValid t) (s : ℕ) (loop : LoopOf t s) (last : Bool) (p : Peeled) (span : HasSpan (table_of t).constants loop.head last p) where
  abbrev d : Head
  d = loop.head

  abbrev body : StmtTrees
  body = loop.body

  abbrev copy : StmtTrees
  copy = iteration_of p.value loop.head loop.body

  module _ (y : List ℕ) (other : is_among y (constant_names t.decls) ≡ false) where
    none : value_named (table_of t).constants y ≡ None
    none = others_unvalued t y other

    -- the DO that is left has the names of the old one
    head_alike : is_among y (head_names (left_head last p.bound d)) ≡ is_among y (head_names d)
    head_alike = go last
      where
        go : (b : Bool) → is_among y (head_names (left_head b p.bound d)) ≡ is_among y (head_names d)
        go false =
            in_head y (left_head false p.bound d)
            ∙ ap (λ (b : Bool). is_among y d.rejected || (is_same_text y d.variable || (((b || is_among y (expr_names d.last)) || is_among y (expr_names d.step)) || is_among y d.private)))
            (absent_literal y p.bound ∙ sym (unnamed (table_of t).constants y none d.first span.m1 span.first_is))
            ∙ sym (in_head y d)
        go true =
            in_head y (left_head true p.bound d)
            ∙ ap (λ (b : Bool). is_among y d.rejected || (is_same_text y d.variable || (((is_among y (expr_names d.first) || b) || is_among y (expr_names d.step)) || is_among y d.private)))
            (absent_literal y p.bound ∙ sym (unnamed (table_of t).constants y none d.last span.m2 span.last_is))
            ∙ sym (in_head y d)

    loop_alike : is_among y (stmt_names (Do (left_head last p.bound d) body)) ≡ is_among y (stmt_names (Do d body))
    loop_alike = among_append y (head_names (left_head last p.bound d)) (stmts_names body) ∙ ap (λ (b : Bool). b || is_among y (stmts_names body)) head_alike ∙ sym (among_append y (head_names d) (stmts_names body))

    new_there : is_among y (stmts_names (with_peeled last p d body)) ≡ is_among y (stmts_names copy) || is_among y (stmt_names (Do d body))
    new_there =
        peeled_tells (λ ts. is_among y (stmts_names ts)) (λ z. is_among y (stmt_names z)) refl (λ z rest. among_append y (stmt_names z) (stmts_names rest)) (names_followed y) last p d body
        ∙ ap (λ (b : Bool). is_among y (stmts_names copy) || b) loop_alike

    alike : (b : Bool) → is_same_text y d.variable ≡ b → Alike b (is_among y (stmts_names (with_peeled last p d body))) (is_among y (stmt_names (Do d body)))
    alike true e = record {
      but = or_right (is_among y (stmts_names (with_peeled last p d body))) true refl ∙ sym (or_right (is_among y (stmt_names (Do d body))) true refl);
      kept = λ h. new_there ∙ ap (λ (b : Bool). is_among y (stmts_names copy) || b) h ∙ or_right (is_among y (stmts_names copy)) true refl;
    }
    alike false e = record { but = ap (λ (b : Bool). b || false) same; kept = λ h. same ∙ h }
      where
        inner : is_among y (stmts_names copy) ≡ is_among y (stmts_names body)
        inner = in_stmts d.variable (literal p.value) y e (absent_literal y p.value) body

        same : is_among y (stmts_names (with_peeled last p d body)) ≡ is_among y (stmt_names (Do d body))
        same =
            new_there ∙ (λ i. inner i || among_append y (head_names d) (stmts_names body) i)
            ∙ again (is_among y (stmts_names body)) (is_among y (head_names d))
            ∙ sym (among_append y (head_names d) (stmts_names body))

    sites_alike : AreAlike d.variable y (stmts_sites (with_peeled last p d body)) (stmt_sites (Do d body))
    sites_alike =
        subst (λ (b : Bool). Alike (is_same_text y d.variable) b (occurs y (stmt_sites (Do d body)))) (sym (ap (is_among y) (stmts_at (with_peeled last p d body))))
        (subst (λ (b : Bool). Alike (is_same_text y d.variable) (is_among y (stmts_names (with_peeled last p d body))) b) (sym (ap (is_among y) (stmt_at (Do d body)))) (alike (is_same_text y d.variable) refl))

    of_it : (old : StmtTree) → statement_with s t ≡ Some old → AreAlike d.variable y (stmts_sites (with_peeled last p d body)) (stmt_sites old)
    of_it old there =
        let is : Do loop.head loop.body ≡ old = ap (statement_in (Do loop.head loop.body)) (sym loop.is ∙ there) in
        subst (λ (z : StmtTree). AreAlike d.variable y (stmts_sites (with_peeled last p d body)) (stmt_sites z)) is sites_alike

  same_names : (y : List ℕ) (b : Bool) → is_among y (constant_names t.decls) ≡ b → is_among y (names_of (program_with (λ z. with_peeled last p loop.head loop.body) s t)) ≡ is_among y (names_of t)
  same_names y true named = constant_there y (program_with (λ z. with_peeled last p loop.head loop.body) s t) named ∙ sym (constant_there y t named)
  same_names y false other = names_kept d.variable y (λ z. with_peeled last p loop.head loop.body) s t (of_it y other) (scalar_occurs t d.variable (variable_scalar t valid s loop))

  pub peeled_kinds : (y : List ℕ) → kind_in (program_with (λ z. with_peeled last p loop.head loop.body) s t) y ≡ kind_in t y
  peeled_kinds = same_kinds t (program_with (λ z. with_peeled last p loop.head loop.body) s t) refl (λ y. same_names y (is_among y (constant_names t.decls)) refl)
