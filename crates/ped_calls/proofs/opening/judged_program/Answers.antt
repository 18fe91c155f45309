use Rattle.std.proofs.Common.{◌≡◌, ℕ, List, [], Option, Some, None, true, refl, ap, sym, ◌∙◌, subst}
use Rattle.ped_tree.specs.Views.{program_tree}
use Rattle.ped_tree.specs.Grammar.Fits as grammar
use Rattle.ped_tree.specs.Grammar.Refusal.{Finding, first_of}
use Rattle.ped_tree.specs.Grammar.RefusalViews.{finding_of}
use Rattle.ped_links.specs.ped_symbols.specs.NameRefusals.{name_refusals}
use Rattle.ped_links.specs.ped_symbols.specs.Refused.{IsFirstOf}
use Rattle.ped_links.specs.ped_symbols.proofs.FewReferences.{few_statements, few_references}
use Rattle.ped_calls.proofs.opening.judged_program.Goals as goal

-- where nothing is refused nothing is the first
none_first : (fs : List Finding) (f : Finding) → fs ≡ [] → first_of fs ≡ Some f → ⊥
none_first fs f none h = let e : ◌≡◌ {A = Option Finding} None (Some f) = sym (ap first_of none) ∙ h in cc

pub symbols_of-requires : goal.symbols_of-requires
symbols_of-requires c =
    let t = program_tree c.args.program in
    let f : grammar.fits t ≡ true = sym c.fits.ensures ∙ c.if-not-fits.false in
    record { statements = few_statements t f; references = few_references t f }

pub returns-in-Ok : goal.returns-in-Ok
returns-in-Ok c =
    let t = program_tree c.args.program in
    let f : grammar.fits t ≡ true = sym c.fits.ensures ∙ c.if-not-fits.false in
    (record { fits = f; names = subst (λ (ls : List ℕ). name_refusals ls t ≡ []) c.requires c.in-Ok.ensures.right }, refl, c.in-Ok.ensures.table)

pub returns-in-Err-At : goal.returns-in-Err-At
returns-in-Err-At c =
    let t = program_tree c.args.program in
    let f : grammar.fits t ≡ true = sym c.fits.ensures ∙ c.if-not-fits.false in
    let r = c.in-Err-At.field-0-0 in
    let some : first_of (name_refusals c.args.program.lines.items t) ≡ Some (finding_of r) = subst (IsFirstOf (name_refusals c.args.program.lines.items t)) c.in-Err-At.field-0-is c.in-Err-At.ensures.refused in
    let first : first_of (name_refusals [] t) ≡ Some (finding_of r) = subst (λ (ls : List ℕ). first_of (name_refusals ls t) ≡ Some (finding_of r)) c.requires some in
    (f, λ v. none_first (name_refusals [] t) (finding_of r) v first)
