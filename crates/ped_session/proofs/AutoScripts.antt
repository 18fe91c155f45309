-- The steps that `auto` takes, answered one behind another as a script.
use Rattle.std.proofs.Common.{◌≡◌, inl, ℕ, ◌+◌, List, [], ◌∷◌, ◌++◌, Bool, append-nil, refl, sym, ap, ◌∙◌}
use Rattle.std.specs.List.{AllByRecursion}
use Rattle.ped_transformations.specs.ped_auto.specs.Editing.{IsOfStrategy}
use Rattle.ped_transformations.specs.ped_auto.specs.Replay.{Replays}
use Rattle.ped_script.specs.declared.items.Command.{Command}
use Rattle.ped_session.specs.declared.replies.Reply.TheVariants.{Changed}
use Rattle.ped_versions.specs.States.{State}
use Rattle.ped_session.specs.Replies.{reply_text}
use Rattle.ped_session.specs.Scripts.{Said, said_by, said_both, AnswersItems}
use Rattle.ped_session.specs.AutoEditing.{session_editing}
use Rattle.ped_session.specs.AutoScripts.{items_on, all_accepted}
use Rattle.ped_session.proofs.AutoSteps.{is_step}
use Rattle.ped_session.proofs.IdleRows.{strategy_idle}

abbrev said_of : List ℕ → Bool → ℕ → Said
said_of bytes refused tests = record { bytes = bytes; refused = refused; tests = tests }

-- without idle rows, what is said first is the reply alone
first_said : (n : ℕ) (next : State) (rest : Said) → said_both (said_by n Changed [] next) rest ≡ said_of (reply_text n Changed ++ rest.bytes) rest.refused (next.tested + rest.tests)
first_said n next rest = ap (λ (text : List ℕ). said_of (text ++ rest.bytes) rest.refused (next.tested + rest.tests)) (append-nil (reply_text n Changed))

-- each is answered by an accepted change
pub replayed : (n : ℕ) (cs : List Command) (d : List ℕ) (s last : State) (tests : ℕ) → AllByRecursion IsOfStrategy cs → Replays session_editing s cs last tests
    → AnswersItems (items_on n cs) d s (all_accepted (items_on n cs) tests) last
replayed n [] d s last tests are h = (ap (all_accepted []) h.1, h.0)
replayed n (c ∷ cs) d s last tests are h = (
  said_by n Changed [] h.0,
  h.0,
  inl (Changed, is_step c d s h.0 Changed h.3.0, [], strategy_idle n s c are.0, refl),
  all_accepted (items_on (n + 1) cs) h.2,
  replayed (n + 1) cs d h.0 last h.2 are.1 h.4,
  ap (all_accepted (items_on n (c ∷ cs))) (h.5 ∙ ap (λ (m : ℕ). m + h.2) h.3.1) ∙ sym (first_said n h.0 (all_accepted (items_on (n + 1) cs) h.2)),
)
