-- What fusing shows of two DO loops that have one variable already.
use Rattle.std.proofs.Common.{refl, subst, sym, ℕ, ◌≡◌}
use Rattle.ped_tree.specs.Tree.{ProgramTree}
use Rattle.ped_rules.specs.ped_flow.specs.PlainBounds.{IsPlainlyBuilt, Values}
use Rattle.ped_rules.specs.ped_eval.specs.Outcomes.{setting_of}
use Rattle.ped_rules.specs.ped_symbols.proofs.RightUseLaws.Whole.{same_values}
use Rattle.ped_splits.proofs.CoverFacts.{MayFuse}
use Rattle.ped_splits.proofs.CoverKinds.{kinds_alike}
use Rattle.ped_splits.proofs.FuseFacts.{renamed}
use Rattle.ped_splits.proofs.JoinCrossing.{renamed_head, second_body}
use Rattle.ped_splits.proofs.JoinFacts.{AreJoined}
use Rattle.ped_splits.proofs.JoinPlain.{no_loop, same_nest, still_unstopped, unassigned_there}
use Rattle.ped_splits.specs.Fusing.{Match}
use Rattle.ped_splits.specs.Neighbours.{fused, joined_head}

module _ (t : ProgramTree) (s : ℕ) (m : Match t s) (f : MayFuse t s m) where
  -- the constants have the same values
  pub same_constants : (setting_of (renamed m.neighbour)).constants ≡ (setting_of t).constants
  same_constants = same_values t (renamed m.neighbour) refl

  abbrev pub are_joined : AreJoined (renamed m.neighbour) (fused m.neighbour) s
  are_joined = record {
    gap = m.neighbour.gap;
    own = m.neighbour.own;
    own_body = m.neighbour.own_body;
    between = m.neighbour.between;
    next = renamed_head m.neighbour;
    next_body = second_body m.neighbour;
    rejected = (joined_head m.neighbour.own m.neighbour.next).rejected;
    stands = refl;
    new_stands = refl;
    numbered = m.neighbour.numbered;
    comments = m.neighbour.comments;
    decls = refl;
    kinds = kinds_alike t s m f;
    new_valid = f.new_valid;
    serial = f.own_serial;
    next_serial = f.next_serial;
    private = f.own_unprivate;
    next_private = f.next_unprivate;
    variable = refl;
    first = sym m.alike.first;
    last = sym m.alike.last;
    step = sym m.alike.step;
    unstopped = still_unstopped t s m.neighbour f.valid f.next_unprivate;
    contained = f.new_contained;
    outer = t;
    nest = same_nest t s m.neighbour f.valid f.next_unprivate;
    plain = λ e bound. subst (λ (values : Values). IsPlainlyBuilt values t s e) (sym same_constants) (f.plain e bound).built;
    fixed = λ y keeps. (unassigned_there t s m.neighbour f.valid f.next_unprivate y (setting_of (renamed m.neighbour)).constants keeps, no_loop t s m.neighbour f.valid f.next_unprivate y (setting_of (renamed m.neighbour)).constants keeps);
  }
