use Rattle.std.proofs.Common.{sym, ap, ◌∙◌, if◌then◌else◌, Some, None}
use Rattle.std.specs.Map.{lookup}
use Rattle.ped_store.specs.Keeping.{Kept, same_copied}
use Rattle.ped_store.proofs.SameCopies.{copies_same, copy_found}
use Rattle.ped_store.proofs.store.Store.add_copy.Goals as goal

pub returns-clause-ok : goal.returns-clause-ok
returns-clause-ok c = record {
  slots = ap (λ (k : Kept). k.slots) c.self.view_is;
  held = ap (λ (k : Kept). k.held) c.self.view_is;
  input = ap (λ (k : Kept). k.input) c.self.view_is;
  output = ap (λ (k : Kept). k.output) c.self.view_is;
  copies = λ other.
      let before = copy_found other c.self.inside.copies.entries ∙ ap (λ (k : Kept). lookup (same_copied other) k.copies) c.self.view_is in
      sym (copy_found other c.insert.new.self.entries) ∙ c.in_ok-insert.ensures.updates.0 other ∙ (λ i. if copies_same c.args.copy.now other i then Some None else before i);
}
