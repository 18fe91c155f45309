use Rattle.std.proofs.Common.{◌≡◌, [], ◌∷◌, ◌++◌, Bool, true, false, is_some, ap, sym, ◌∙◌, if◌then◌else◌}
use Rattle.ped_base.specs.contracts.identifiers.NamePartialEq.TheImpl as code
use Rattle.indexmap.proofs.CallerLemmas.{insert_entry-new}
use Rattle.ped_symbols.specs.Entries.{entry_of}
use Rattle.ped_symbols.proofs.Lookups.{looked_up, none_there}
use Rattle.ped_symbols.proofs.tables.NameTable.keep.Goals as goal

pub returns-then-contains_key-clause-ok : goal.returns-then-contains_key-clause-ok
returns-then-contains_key-clause-ok g c =
    let name = c.args.name.now in
    let es = c.args.self.now.entries.entries in
    let there : is_some (entry_of es name) ≡ true = sym (ap is_some (looked_up name es)) ∙ sym c.contains_key.ensures ∙ c.if-contains_key.true in
    sym (ap (λ (b : Bool). if b then es else es ++ (name, c.args.value) ∷ []) there)

pub returns-clause-ok : goal.returns-clause-ok
returns-clause-ok g c =
    let name = c.args.name.now in
    let es = c.args.self.now.entries.entries in
    let not_there = sym c.contains_key.ensures ∙ c.if-contains_key.false in
    let missing : is_some (entry_of es name) ≡ false = sym (ap is_some (looked_up name es)) ∙ not_there in
    c.in_ok-insert.ensures.entries
    ∙ insert_entry-new (code.eq-value).it c.args.self.now.entries name c.args.value (none_there _ not_there)
    ∙ sym (ap (λ (b : Bool). if b then es else es ++ (name, c.args.value) ∷ []) missing)
