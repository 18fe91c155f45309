-- What a session makes of moves along the history of its versions.
use Rattle.std.proofs.Common.{◌≡◌, List, [], ◌∷◌, Bool, true, false, refl}
use Rattle.ped_versions.specs.States.{Other, State}
use Rattle.ped_versions.specs.Changing.{MovesBack, MovesForward}
use Rattle.ped_session.specs.declared.replies.Reply.TheVariants.{Changed, Refused}
use Rattle.ped_session.specs.declared.replies.Refusal.TheVariants.{NothingToUndo, NothingToRedo}
use Rattle.ped_session.specs.Steps.{GoesBack, GoesForward}
use Rattle.ped_session.specs.Meanings.{IsMeaningKept}
use Rattle.ped_session.proofs.KeptMeanings.{back_keeps, forward_keeps}

-- a step back is accepted where there is a past
pub went_back : (past : List Other) (s next : State) → MovesBack past s true next → GoesBack past s Changed next
went_back [] s next h = let no : ◌≡◌ {A = Bool} true false = h.0 in absurd cc
went_back (other ∷ past) s next h = (refl, h.1)

pub stayed_last : (past : List Other) (s next : State) → MovesBack past s false next → GoesBack past s (Refused NothingToUndo) next
stayed_last [] s next h = (refl, h.1)
stayed_last (other ∷ past) s next h = let no : ◌≡◌ {A = Bool} false true = h.0 in absurd cc

-- and a step forward where there is a future
pub went_forward : (future : List Other) (s next : State) → MovesForward future s true next → GoesForward future s Changed next
went_forward [] s next h = let no : ◌≡◌ {A = Bool} true false = h.0 in absurd cc
went_forward (other ∷ future) s next h = (refl, h.1)

pub stayed_first : (future : List Other) (s next : State) → MovesForward future s false next → GoesForward future s (Refused NothingToRedo) next
stayed_first [] s next h = (refl, h.1)
stayed_first (other ∷ future) s next h = let no : ◌≡◌ {A = Bool} false true = h.0 in absurd cc

-- both keep that transformations keep the meaning
pub back_kept : (taken : Bool) (s next : State) → IsMeaningKept s → MovesBack s.past s taken next → IsMeaningKept next
back_kept true s next k h = back_keeps s.past s next Changed k k.past (went_back s.past s next h)
back_kept false s next k h = back_keeps s.past s next (Refused NothingToUndo) k k.past (stayed_last s.past s next h)

pub forward_kept : (taken : Bool) (s next : State) → IsMeaningKept s → MovesForward s.future s taken next → IsMeaningKept next
forward_kept true s next k h = forward_keeps s.future s next Changed k k.future (went_forward s.future s next h)
forward_kept false s next k h = forward_keeps s.future s next (Refused NothingToRedo) k k.future (stayed_first s.future s next h)
