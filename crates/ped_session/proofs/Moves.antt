-- `undo` and `redo` move along the sources, and take each other back.
use Rattle.std.proofs.Common.{◌≡◌, ℕ, zero, suc, List, [], ◌∷◌, refl, sym, ap, ◌∙◌, subst}
use Rattle.ped_script.specs.declared.items.Command.{Command}
use Rattle.ped_script.specs.declared.kinds.CommandKind.{CommandKind}
use Rattle.ped_script.specs.Kinds.{kind_of, IsMove}
use Rattle.ped_script.specs.declared.items.Command.TheVariants.{Undo, Redo}
use Rattle.ped_versions.specs.declared.changes.ChangeKind.{ChangeKind}
use Rattle.ped_versions.specs.declared.changes.ChangeKind.TheVariants.{Edit}
use Rattle.ped_session.specs.declared.replies.Refusal.{Refusal}
use Rattle.ped_session.specs.declared.replies.Reply.{Reply}
use Rattle.ped_session.specs.declared.replies.Reply.TheVariants.{Changed, Refused}
use Rattle.ped_versions.specs.States.{Other, State, gone_back_to, gone_forward_to}
use Rattle.ped_transformations.specs.ped_rules.specs.Steps.{StepAt}
use Rattle.ped_transformations.specs.Table.{step_of}
use Rattle.ped_session.specs.Steps.{Edits, accepted, refused, change_by, Transforms, missing, forbidden, transformed, GoesBack, GoesForward, IsStep}
use Rattle.ped_session.specs.Histories.{HaveSameSources, Times}
use Rattle.ped_session.proofs.Doing.{Does, by_nothing, by_edit, by_step, by_undo, by_redo, does}

-- a change is no refusal
no_refusal : (why : Refusal) → ◌≡◌ {A = Reply} Changed (Refused why) → ⊥
no_refusal why e = cc

-- the first of some sources becomes the present one, and the present one the first of others
record Moves (taken : List Other) (present : List ℕ) (given taken_next : List Other) (present_next : List ℕ) (given_next : List Other) : Type 0 where
  other : Other
  taken_is : taken ≡ other ∷ taken_next
  present_is : present_next ≡ other.0
  given_is : given_next ≡ (present, other.1) ∷ given

-- there and back is as it was
there_and_back : (taken given taken_next given_next taken_last given_last : List Other) (present present_next present_last : List ℕ)
    → Moves taken present given taken_next present_next given_next → Moves given_next present_next taken_next given_last present_last taken_last
    → (taken_last ≡ taken) × (present_last ≡ present) × (given_last ≡ given)
there_and_back taken given taken_next given_next taken_last given_last present present_next present_last a b =
    let same : (present, a.other.1) ∷ given ≡ b.other ∷ given_last = sym a.given_is ∙ b.taken_is in
    let other : b.other ≡ (present, a.other.1) = cc in
    let rest : given_last ≡ given = cc in
    let first : (present_next, b.other.1) ≡ a.other = (λ i. (a.present_is i, (other i).1)) in
    (b.given_is ∙ ap (λ (o : Other). o ∷ taken_next) first ∙ sym a.taken_is, b.present_is ∙ ap (λ (o : Other). o.0) other, rest)

goes_back : (past : List Other) (s next : State) → s.past ≡ past → GoesBack past s Changed next → Moves s.past s.present s.future next.past next.present next.future
goes_back [] s next e h = absurd (no_refusal _ h.0)
goes_back (o ∷ past) s next e h =
    record { other = o; taken_is = e ∙ ap (λ (n : State). o ∷ n.past) (sym h.1); present_is = ap (λ (n : State). n.present) h.1; given_is = ap (λ (n : State). n.future) h.1 }

goes_forward : (future : List Other) (s next : State) → s.future ≡ future → GoesForward future s Changed next → Moves s.future s.present s.past next.future next.present next.past
goes_forward [] s next e h = absurd (no_refusal _ h.0)
goes_forward (o ∷ future) s next e h =
    record { other = o; taken_is = e ∙ ap (λ (n : State). o ∷ n.future) (sym h.1); present_is = ap (λ (n : State). n.present) h.1; given_is = ap (λ (n : State). n.past) h.1 }

-- one more command behind several
pub one_more : (n : ℕ) (c : Command) (d : List ℕ) (s mid last : State) → Times n c d s mid → IsStep c d mid Changed last → Times (suc n) c d s last
one_more zero c d s mid last is step = (last, subst (λ (x : State). IsStep c d x Changed last) is step, refl)
one_more (suc n) c d s mid last h step = (h.0, h.1, one_more n c d h.0 mid last h.2 step)

-- there is a step back where there is a past
pub back_from : (d : List ℕ) (s : State) (o : Other) (past : List Other) → s.past ≡ o ∷ past → IsStep Undo d s Changed (gone_back_to o past s)
back_from d s o past e = subst (λ (os : List Other). GoesBack os s Changed (gone_back_to o past s)) (sym e) (refl, refl)

-- there is a step forward where there is a future
forth_from : (d : List ℕ) (s : State) (o : Other) (future : List Other) → s.future ≡ o ∷ future → IsStep Redo d s Changed (gone_forward_to o future s)
forth_from d s o future e = subst (λ (os : List Other). GoesForward os s Changed (gone_forward_to o future s)) (sym e) (refl, refl)

redone_once : (d : List ℕ) (s next mid again : State) → IsStep Undo d s Changed next → HaveSameSources mid next → IsStep Redo d mid Changed again → HaveSameSources again s
redone_once d s next mid again a e b =
    let back = goes_back s.past s next refl a in
    let forth = goes_forward mid.future mid again refl b in
    let both = there_and_back s.past s.future next.past next.future again.past again.future s.present next.present again.present back
    (subst (λ (x : List Other). Moves next.future next.present x again.future again.present again.past) e.past
    (subst (λ (x : List ℕ). Moves next.future x mid.past again.future again.present again.past) e.present
    (subst (λ (x : List Other). Moves x mid.present mid.past again.future again.present again.past) e.future forth))) in
    record { past = both.0; present = both.1; future = both.2 }

undone_once : (d : List ℕ) (s next mid again : State) → IsStep Redo d s Changed next → HaveSameSources mid next → IsStep Undo d mid Changed again → HaveSameSources again s
undone_once d s next mid again a e b =
    let forth = goes_forward s.future s next refl a in
    let back = goes_back mid.past mid again refl b in
    let both = there_and_back s.future s.past next.future next.past again.future again.past s.present next.present again.present forth
    (subst (λ (x : List Other). Moves next.past next.present x again.past again.present again.future) e.future
    (subst (λ (x : List ℕ). Moves next.past x mid.future again.past again.present again.future) e.present
    (subst (λ (x : List Other). Moves x mid.present mid.future again.past again.present again.future) e.past back))) in
    record { past = both.2; present = both.1; future = both.0 }

same_sources : (s u : State) → u ≡ s → HaveSameSources u s
same_sources s u e = record { past = ap (λ (x : State). x.past) e; present = ap (λ (x : State). x.present) e; future = ap (λ (x : State). x.future) e }

-- as many times `redo` as `undo`
pub redone : (n : ℕ) (d : List ℕ) (s back : State) → Times n Undo d s back → (again : State) × Times n Redo d back again × HaveSameSources again s
redone zero d s back a = (s, sym a, same_sources s s refl)
redone (suc n) d s back a =
    let rest = redone n d a.0 back a.2 in
    let moved = goes_back s.past s a.0 refl a.1 in
    let step = forth_from d rest.0 (s.present, moved.other.1) s.future (rest.2.future ∙ moved.given_is) in
    let again = gone_forward_to (s.present, moved.other.1) s.future rest.0 in
    (again, one_more n Redo d back rest.0 again rest.1 step, redone_once d s a.0 rest.0 again a.1 rest.2 step)

-- as many times `undo` as `redo`
pub undone : (n : ℕ) (d : List ℕ) (s forth : State) → Times n Redo d s forth → (again : State) × Times n Undo d forth again × HaveSameSources again s
undone zero d s forth a = (s, sym a, same_sources s s refl)
undone (suc n) d s forth a =
    let rest = undone n d a.0 forth a.2 in
    let moved = goes_forward s.future s a.0 refl a.1 in
    let step = back_from d rest.0 (s.present, moved.other.1) s.past (rest.2.past ∙ moved.given_is) in
    let again = gone_back_to (s.present, moved.other.1) s.past rest.0 in
    (again, one_more n Undo d forth rest.0 again rest.1 step, undone_once d s a.0 rest.0 again a.1 rest.2 step)

-- a change leaves the former source as the newest of the past
pub record Leaves (s next : State) : Type 0 where
  pub change : ChangeKind
  pub past_is : next.past ≡ (s.present, change) ∷ s.past

edit_leaves : (kept gone : ℕ) (edited : List ℕ) (s next : State) → Edits kept gone edited s Changed next → Leaves s next
edit_leaves kept gone edited s next (accepted old new from to reply after) = record { change = Edit; past_is = ap (λ (n : State). n.past) after }
edit_leaves kept gone edited s next (refused why first same) = absurd (no_refusal _ same.0)

pub step_leaves : (at : StepAt) (s next : State) → Transforms at s Changed next → Leaves s next
step_leaves at s next (missing t reads none same) = absurd (no_refusal _ same.0)
step_leaves at s next (forbidden t reads some c is same) = absurd (no_refusal _ same.0)
step_leaves at s next (transformed t new keep reads some none makes valid reply after) = record { change = change_by at.kind; past_is = ap (λ (n : State). n.past) after }

leaves_by : (k : CommandKind) (s next : State) → ¬ (IsMove k) → Does k s Changed next → Leaves s next
leaves_by k s next still (by_nothing changed is) = absurd (changed refl)
leaves_by k s next still (by_edit kept gone text h) = edit_leaves kept gone text s next h
leaves_by k s next still (by_step command h) = step_leaves (step_of command) s next h
leaves_by k s next still (by_undo is h) = absurd (still (subst IsMove (sym is) tt))
leaves_by k s next still (by_redo is h) = absurd (still (subst IsMove (sym is) tt))

leaves : (c : Command) (d : List ℕ) (s next : State) → ¬ (IsMove (kind_of c)) → IsStep c d s Changed next → Leaves s next
leaves c d s next still h = leaves_by (kind_of c) s next still (does (kind_of c) d s next Changed h)

-- `undo` behind a change is accepted, and gives the former source and the former past
pub restored : (c : Command) (d : List ℕ) (s next : State) → ¬ (IsMove (kind_of c)) → IsStep c d s Changed next
    → (back : State) × IsStep Undo d next Changed back × (back.present ≡ s.present) × (back.past ≡ s.past)
restored c d s next still a =
    let left = leaves c d s next still a in
    (gone_back_to (s.present, left.change) s.past next, back_from d next (s.present, left.change) s.past left.past_is, refl, refl)
