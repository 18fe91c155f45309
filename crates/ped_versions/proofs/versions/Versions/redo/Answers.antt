use Rattle.ped_versions.specs.Holding.{tree_of}
use Rattle.ped_versions.proofs.HistoryMoves.{first_leads, went_forward}
use Rattle.ped_versions.proofs.versions.Versions.redo.Goals as goal

pub exchange-requires : goal.exchange-requires
exchange-requires g c =
    let s = c.self.inside in
    record {
      version = c.self.invariant.version;
      graph = c.self.invariant.graph_is;
      leads = first_leads (tree_of s.present) s.history.future c.in-Ok.entry.now c.self.invariant.future_leads c.in-Ok.ensures.next;
    }

pub invariant_of-self : goal.invariant_of-self
invariant_of-self g c =
    let s = c.self.inside in
    let to = c.exchange.ensures in
    went_forward s.present c.exchange.new.present s.graph c.exchange.new.graph s.history.past s.history.future c.in-Ok.entry.now c.exchange.new.entry
    c.self.invariant to.text to.program to.symbols to.graph to.other to.change to.back to.way c.in-Ok.ensures.next
