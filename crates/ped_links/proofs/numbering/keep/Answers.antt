use Rattle.std.proofs.Common.{◌≡◌, [], ◌∷◌, ◌++◌, Bool, true, false, is_some, ap, sym, ◌∙◌, if◌then◌else◌}
use Rattle.ped_base.specs.contracts.identifiers.NamePartialEq.TheImpl as code
use Rattle.indexmap.proofs.CallerLemmas.{insert_entry-new}
use Rattle.ped_units.specs.ped_valid.specs.ped_symbols.specs.Entries.{entry_of}
use Rattle.ped_links.proofs.Meant.{table_finds, none_found}
use Rattle.ped_links.proofs.numbering.keep.Goals as goal

pub returns-then-contains_key : goal.returns-then-contains_key
returns-then-contains_key c =
    let name = c.args.name.now in
    let es = c.args.numbers.now.entries in
    let there : is_some (entry_of es name) ≡ true = sym (ap is_some (table_finds name es)) ∙ sym c.contains_key.ensures ∙ c.if-contains_key.true in
    sym (ap (λ (b : Bool). if b then es else es ++ (name, c.args.number) ∷ []) there)

pub returns : goal.returns
returns c =
    let name = c.args.name.now in
    let es = c.args.numbers.now.entries in
    let not_there = sym c.contains_key.ensures ∙ c.if-contains_key.false in
    let missing : is_some (entry_of es name) ≡ false = sym (ap is_some (table_finds name es)) ∙ not_there in
    c.in_ok-insert.ensures.entries
    ∙ insert_entry-new (code.eq-value).it c.args.numbers.now name c.args.number (none_found _ not_there)
    ∙ sym (ap (λ (b : Bool). if b then es else es ++ (name, c.args.number) ∷ []) missing)
