use Rattle.std.proofs.Common.{◌≡◌, List, ◌++◌, None, refl, map, subst}
use Rattle.std.specs.List.{flat_map}
use Rattle.std.specs.Result.{IfOk}
use Rattle.std.proofs.lemmas.Result.{IfOk-weaker}
use Rattle.ped_tree.specs.Views.{decl_tree, stmt_trees, program_tree}
use Rattle.ped_symbols.specs.Sites.{Site, decl_sites, stmts_sites}
use Rattle.ped_symbols.specs.NameRefusals.{at_first, behind_sites}
use Rattle.ped_symbols.specs.Declarations.{declared_in}
use Rattle.ped_symbols.specs.Passes.{Holds, first_with}
use Rattle.ped_symbols.specs.declared.sites.Found.{Found}
use Rattle.ped_refs.specs.References.{references}
use Rattle.ped_symbols.specs.Passed.{GoesOver, HasPassed}
use Rattle.ped_symbols.proofs.Collected.{passed_whole}
use Rattle.ped_symbols.proofs.symbols.over_sites.Goals as goal

pub returns : goal.returns
returns c =
    let t = program_tree c.args.program.now in
    let d = declared_in t.decls in
    let declared = c.args.declared.now in
    let held = c.declarations.new.held in
    let next = c.in_ok-found.found in
    let refs = references t in
    let start : Found = record { first = None; lines = c.deref.result; until_many_pairs = c.args.until_many_pairs } in
    let over = subst
    (λ ds. Holds held (behind_sites at_first (flat_map decl_sites (map decl_tree ds))) × ((more : List Site) →
    first_with d refs (behind_sites at_first (flat_map decl_sites (map decl_tree ds))) next more ≡ first_with d refs at_first start (flat_map decl_sites (map decl_tree ds) ++ more)))
    c.deref-2.ensures.value (c.in_ok-found.ensures.first d c.requires.declared refs at_first c.requires.held) in
    let goes : IfOk c.in_body.result (λ r. GoesOver declared held c.args.uses.now next (stmts_sites t.body) r.0 r.1) =
    subst (λ ss. IfOk c.in_body.result (λ r. GoesOver declared held c.args.uses.now next (stmts_sites (stmt_trees ss)) r.0 r.1)) c.deref-3.ensures.value c.in_body.ensures in
    IfOk-weaker c.in_body.result _ _
    (λ r g. subst (λ lines. HasPassed lines t (record { first = r.0; kinds = r.1; consts = held.consts })) c.deref.ensures.value
    (passed_whole t declared held start next (record { first = r.0; kinds = r.1; consts = held.consts }) c.args.uses.now refl c.requires.uses c.requires.declared over.0 c.requires.until c.in_ok-found.ensures.until over.1 g refl))
    goes
