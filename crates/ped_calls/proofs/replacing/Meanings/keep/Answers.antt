use Rattle.std.proofs.Common.{◌≡◌, [], ◌∷◌, ◌++◌, Bool, true, false, is_some, map, ap, sym, ◌∙◌, if◌then◌else◌}
use Rattle.ped_base.specs.contracts.identifiers.NamePartialEq.TheImpl as code
use Rattle.indexmap.proofs.CallerLemmas.{insert_entry-new}
use Rattle.ped_tree.specs.Views.{expr_tree, value_tree}
use Rattle.ped_links.specs.ped_symbols.specs.Entries.{entry_of}
use Rattle.ped_links.proofs.Meant.{table_finds, there_meant, kept_meant, none_found}
use Rattle.ped_calls.proofs.replacing.Meanings.keep.Goals as goal

pub returns-then-contains_key : goal.returns-then-contains_key
returns-then-contains_key c =
    let name = c.args.name.now in
    let es = c.args.self.now.exprs.entries in
    let there : is_some (entry_of (map value_tree es) name) ≡ true = there_meant es name ∙ sym (ap is_some (table_finds name es)) ∙ sym c.contains_key.ensures ∙ c.if-contains_key.true in
    sym (ap (λ (b : Bool). if b then map value_tree es else map value_tree es ++ (name, expr_tree c.args.e) ∷ []) there)

pub returns : goal.returns
returns c =
    let name = c.args.name.now in
    let es = c.args.self.now.exprs.entries in
    let not_there = sym c.contains_key.ensures ∙ c.if-contains_key.false in
    let missing : is_some (entry_of es name) ≡ false = sym (ap is_some (table_finds name es)) ∙ not_there in
    ap (map value_tree) (c.in_ok-insert.ensures.entries
    ∙ insert_entry-new (code.eq-value).it c.args.self.now.exprs name c.args.e (none_found _ not_there)
    ∙ sym (ap (λ (b : Bool). if b then es else es ++ (name, c.args.e) ∷ []) missing))
    ∙ kept_meant es name c.args.e
