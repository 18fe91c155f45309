use Rattle.std.proofs.Common.{◌≡◌, List, [], ◌∷◌, ◌++◌, ◌+◌, map, take, arith, ap, sym, subst, ◌∙◌, append_assoc}
use Rattle.std.specs.List.{flat_map}
use Rattle.std.proofs.lemmas.Grind.{common_steps}
use Rattle.ped_tree.specs.Views.{decl_tree}
use Rattle.ped_symbols.specs.Sites.{Site, decl_sites}
use Rattle.ped_symbols.specs.NameRefusals.{behind_sites}
use Rattle.ped_symbols.specs.Passes.{Holds, first_with}
use Rattle.ped_symbols.proofs.Walking.{behind_append, decl_more}
use Rattle.ped_symbols.proofs.declarations.declarations.Goals as goal

pub loop-decl-preserved : goal.loop-decl-preserved
loop-decl-preserved c = record {
  until = c.in_ok-next.ensures.until ∙ c.loop-decl.invariant.until;
  first = λ d k refs b h.
      let i = c.loop-decl.decl-index in
      let all = c.args.decls.now in
      let x = c.decl-item.result in
      let xs = flat_map decl_sites (map decl_tree (take i all)) in
      let ys = decl_sites (decl_tree x) in
      let front : take (i + 1) all ≡ take i all ++ x ∷ [] = grind (arith, common_steps) in
      let was = c.loop-decl.invariant.first d k refs b h in
      let step = c.in_ok-next.ensures.first d k refs (behind_sites b xs) was.0 in
      subst (λ sites. Holds c.declaration.new.held (behind_sites b sites) × ((more : List Site) → first_with d refs (behind_sites b sites) c.in_ok-next.next more ≡ first_with d refs b c.args.found (sites ++ more)))
      (sym (decl_more (take i all) (take (i + 1) all) x front)) (
        subst (Holds c.declaration.new.held) (sym (behind_append b xs ys)) step.0,
        λ more. ap (λ b. first_with d refs b c.in_ok-next.next more) (behind_append b xs ys) ∙ step.1 more ∙ was.1 (ys ++ more) ∙ ap (first_with d refs b c.args.found) (sym (append_assoc xs ys more)),
      );
}

pub returns-clause-first : goal.returns-clause-first
returns-clause-first c = λ d k refs b h.
    let all = c.args.decls.now in
    let whole : take c.loop-decl.decl-index all ≡ all = grind (arith, common_steps) in
    subst (λ ds. Holds c.loop-decl.held (behind_sites b (flat_map decl_sites (map decl_tree ds))) × ((more : List Site) → first_with d refs (behind_sites b (flat_map decl_sites (map decl_tree ds))) c.loop-decl.next more ≡ first_with d refs b c.args.found (flat_map decl_sites (map decl_tree ds) ++ more)))
    whole (c.loop-decl.invariant.first d k refs b h)
