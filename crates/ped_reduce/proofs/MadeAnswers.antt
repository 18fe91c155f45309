-- From the program that the code makes to what comes of lowering one DO more.
use Rattle.std.proofs.Common.{◌≡◌, ◌↔◌, ℕ, ◌+◌, List, Bool, true, false, Option, Some, None, refl, sym, ap, ◌∙◌, subst, if◌then◌else◌}
use Rattle.std.specs.Prelude.{option_map}
use Rattle.ped_tree.specs.Tree.{Head, StmtTree, StmtTrees, Assign, If, Do, Print, Read, Stop, Comment, ProgramTree}
use Rattle.ped_tree.specs.Numbering.{statement_with}
use Rattle.ped_tree.specs.Views.{program_tree}
use Rattle.ped_rules.specs.ped_symbols.specs.Kinds.{table_of}
use Rattle.ped_rules.specs.ped_symbols.specs.NameRefusals.{IsValid}
use Rattle.ped_rules.specs.ped_flow.specs.Questions.{IsLoop}
use Rattle.ped_rules.specs.CodeSpans.{IsCourse, span_in}
use Rattle.ped_rules.specs.Spans.{Span, span_of, spans_far}
use Rattle.ped_rules.specs.declared.spans.Course.TheVariants.{Near}
use Rattle.ped_rules.specs.declared.spans.Span.{Span as CodeSpan}
use Rattle.ped_rules.specs.Scalars.{of_span}
use Rattle.ped_rules.proofs.KnownSpans.{known_near}
use Rattle.ped_reduce.specs.declared.lowering.Lowered.{Lowered as CodeLowered}
use Rattle.ped_reduce.specs.declared.lowering.Made.{Made}
use Rattle.ped_reduce.specs.Lowering.{Partials, Lowered, and_then, near_only, fresh_arrays, partials_of, lowered_with, lowered_statement, lowered_at}
use Rattle.ped_reduce.specs.CodeLowered.{lowered_view, IsNext, IsNextBy, IsLowerable, IsMade, next_view}

same_lowered : (p q : Lowered) → Some p ≡ Some q → p ≡ q
same_lowered p q e = cc

nothing_some : (r : Lowered) → None ≡ Some r → ⊥
nothing_some r e = cc

-- with the tree that the code makes
pub with_tree : (q : Lowered) (u : ProgramTree) → u ≡ q.tree → Some q ≡ Some (record { tree = u; origin = q.origin; live = q.live; more = q.more })
with_tree q u e = ap (λ (v : ProgramTree). Some (record { tree = v; origin = q.origin; live = q.live; more = q.more })) (sym e)

module _ (s : ℕ) (names : List (List ℕ)) (l : CodeLowered) where
  abbrev at : Option Lowered
  at = lowered_at true (lowered_view l) s names

  abbrev of : StmtTree → Option Lowered
  of = lowered_statement true (lowered_view l) s names

  -- where there is no DO, nothing comes of it
  no_loop : (o : Option StmtTree) → ((h : Head) (body : StmtTrees) → o ≡ Some (Do h body) → ⊥) → (r : Lowered) → and_then o of ≡ Some r → ⊥
  no_loop None none r e = nothing_some r e
  no_loop (Some (Do h body)) none r e = none h body refl
  no_loop (Some (Assign left right)) none r e = nothing_some r e
  no_loop (Some (If c a b)) none r e = nothing_some r e
  no_loop (Some (Print items)) none r e = nothing_some r e
  no_loop (Some (Read items)) none r e = nothing_some r e
  no_loop (Some Stop) none r e = nothing_some r e
  no_loop (Some (Comment text)) none r e = nothing_some r e

  module _ (none : (h : Head) (body : StmtTrees) → IsLoop (program_tree l.tree) (s + l.more) h body → ⊥) where
    pub no_next : IsNext s names l None
    no_next r e valid = no_loop (statement_with (s + l.more) (program_tree l.tree)) none r e

  -- where there is one
  module _ (h : Head) (body : StmtTrees) (is : IsLoop (program_tree l.tree) (s + l.more) h body) where
    at_loop : at ≡ of (Do h body)
    at_loop = ap (λ (o : Option StmtTree). and_then o of) is

    -- no program is made
    pub no_next_made : IsMade s names l h body None → IsNext s names l None
    no_next_made none r e valid = nothing_some r (sym none ∙ sym at_loop ∙ e)

    module _ (made : Made) (makes : IsMade s names l h body (Some made)) where
      at_made : at ≡ Some (next_view s l body made)
      at_made = at_loop ∙ makes.0

      pub next_made : (o : Option CodeLowered) → IsNextBy s l body made o → IsNext s names l o
      next_made None invalid = λ r e valid. invalid (subst (λ (p : Lowered). IsValid p.tree) (same_lowered r (next_view s l body made) (sym e ∙ at_made)) valid)
      next_made (Some new) next = (at_made ∙ ap (λ (p : Lowered). Some p) (sym next.0), next.1)

      pub lowerable_made : IsLowerable s names l ↔ IsValid (program_tree made.tree)
      lowerable_made = (
        (λ g. subst (λ (p : Lowered). IsValid p.tree) (same_lowered g.0 (next_view s l body made) (sym g.1 ∙ at_made)) g.2),
        (λ valid. (next_view s l body made, at_made, valid)),
      )

  -- the values of the DO's variable
  near_is : (v : Span) → spans_far v ≡ false → near_only (Some v) ≡ Some v
  near_is v near = ap (λ (b : Bool). if b then None else Some v) near

  module _ (h : Head) (body : StmtTrees) where
    abbrev found : Option Span
    found = span_of (table_of (program_tree l.tree)).constants h

    by_span : (o : Option Span) → near_only found ≡ o → of (Do h body) ≡ and_then o (λ v. option_map (lowered_with true (lowered_view l) s body v) (partials_of names (fresh_arrays (program_tree l.tree))))
    by_span o e = ap (λ (z : Option Span). and_then z (λ v. option_map (lowered_with true (lowered_view l) s body v) (partials_of names (fresh_arrays (program_tree l.tree))))) e

    module _ (span : CodeSpan) (near : IsCourse found (Near span)) where
      spans : near_only found ≡ Some (span_in span)
      spans = ap near_only near.0 ∙ near_is (span_in span) (sym (ap (λ (o : Option Span). of_span spans_far o) near.0) ∙ known_near found (Some span) near)

      pub by_partials : (o : Option (List Partials)) → partials_of names (fresh_arrays (program_tree l.tree)) ≡ o → of (Do h body) ≡ option_map (lowered_with true (lowered_view l) s body (span_in span)) o
      by_partials o e = by_span (Some (span_in span)) spans ∙ ap (λ (z : Option (List Partials)). option_map (lowered_with true (lowered_view l) s body (span_in span)) z) e
