use Rattle.std.proofs.Common.{◌≡◌, List, ◌++◌, true, ap, sym, subst, ◌∙◌, rules}
use Rattle.ped_base.specs.Lists.{has_some}
use Rattle.ped_tree.specs.Views.{decl_tree}
use Rattle.ped_symbols.specs.Uses.{decl_uses}
use Rattle.ped_symbols.specs.Values.{behind_decl, decl_fails, decl_is_empty}
use Rattle.ped_symbols.specs.Arrays.{arrays_in}
use Rattle.ped_symbols.specs.Sites.{Site, decl_sites}
use Rattle.ped_symbols.specs.NameRefusals.{behind_sites, declares_again}
use Rattle.ped_symbols.specs.Passes.{HasSeen, KnowsArrays, Counts, Holds, first_with}
use Rattle.ped_symbols.proofs.Walking.{over_declaration, one_site}
use Rattle.ped_symbols.proofs.Sizes.{counts_more}
use Rattle.ped_symbols.proofs.declarations.declaration.Goals as goal

pub returns-clause-first : goal.returns-clause-first
returns-clause-first c = λ d k refs b h.
    let t = decl_tree c.args.decl.now in
    let there : has_some (decl_sites t) ≡ true = search rules in
    let uses : c.push_decl.new.uses.items ≡ decl_uses t = c.in_ok-push_decl.ensures ∙ ap (λ us. us ++ decl_uses t) c.new-uses.ensures.items in
    let seen_uses = c.deref.ensures.value ∙ uses in
    let counts : Counts c.with_declared-held.result (b.arrays ++ arrays_in b.values t) =
    subst (λ v. Counts c.with_declared-held.result (b.arrays ++ arrays_in v t)) h.values
    (counts_more c.args.held.now.elements c.with_declared-held.result b.arrays (arrays_in c.args.held.now.consts t) h.elements c.with_declared-held.ensures.together c.with_declared-held.ensures.large) in
    subst (λ sites. Holds (record { seen = c.see_all.new.self; consts = c.decl_fails.new.consts; arrays = c.keep_arrays.new.arrays; elements = c.with_declared-held.result }) (behind_sites b sites) × ((more : List Site) → first_with d refs (behind_sites b sites) c.behind.result more ≡ first_with d refs b c.args.found (sites ++ more)))
    (sym (one_site t there)) (
      record {
        seen = subst (λ us. HasSeen c.see_all.new.self (b.uses ++ us)) seen_uses (c.in_ok-repeats.ensures.seen b.uses h.seen);
        values = c.in_ok-fails.ensures.consts ∙ ap (λ v. behind_decl v t) h.values;
        arrays = subst (λ v. KnowsArrays c.keep_arrays.new.arrays (b.arrays ++ arrays_in v t)) h.values (c.in_ok-keep_arrays.ensures b.arrays h.arrays);
        elements = counts;
      },
      over_declaration d refs b c.args.found c.behind.result t c.deref-2.result.now _ (c.behind.ensures.first d k) c.behind.ensures.lines (c.deref-2.ensures.value ∙ uses)
          (c.in_ok-repeats.ensures.again b.uses h.seen ∙ ap (declares_again b.uses) seen_uses)
          (c.in_ok-fails.ensures.fails ∙ ap (λ v. decl_fails v t) h.values)
          (c.decl_is_empty-is_empty.ensures ∙ ap (λ v. decl_is_empty v t) h.values)
          (c.are_many.ensures (b.arrays ++ arrays_in b.values t) counts),
    )
