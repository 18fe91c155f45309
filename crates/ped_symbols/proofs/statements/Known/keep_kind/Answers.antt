use Rattle.std.proofs.Common.{◌≡◌, [], ◌∷◌, ◌++◌, Bool, true, is_some, ap, sym, ◌∙◌, if◌then◌else◌}
use Rattle.ped_symbols.specs.Entries.{entry_of}
use Rattle.ped_symbols.specs.Passes.{kind_with}
use Rattle.ped_symbols.proofs.statements.Known.keep_kind.Goals as goal

pub returns-then-has : goal.returns-then-has
returns-then-has c =
    let name = c.args.name.now in
    let es = c.args.kinds.now.entries.entries in
    let there : is_some (entry_of es name) ≡ true = sym c.has.ensures ∙ c.if-has.true in
    sym (ap (λ (b : Bool). if b then es else es ++ (name, kind_with c.args.self.now name) ∷ []) there)
