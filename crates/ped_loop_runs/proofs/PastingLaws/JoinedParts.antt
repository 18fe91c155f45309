-- Parts of a run, of which some are changed: how they come together.
use Rattle.std.proofs.Common.{◌≡◌, ℕ, List, [], ◌∷◌, ◌++◌, Result, Ok, Err, ◌⊎◌, inl, inr, refl, sym, ap, subst, ◌∙◌}
use Rattle.std.proofs.lemmas.List.{append-nil, append_assoc}
use Rattle.ped_bodies.specs.ped_store.specs.Stores.{Store}
use Rattle.ped_bodies.specs.ped_store.specs.Acts.{Touch, Act, Place, Step, store_behind}
use Rattle.ped_bodies.specs.ped_laws.specs.Acts.Fitting.{Find, store_after}
use Rattle.ped_bodies.specs.ped_laws.specs.Acts.Pieces.{Part, same, changed, old_parts, new_parts}
use Rattle.ped_bodies.specs.ped_laws.proofs.ActLaws.Stores.{after_append}
use Rattle.ped_bodies.specs.ped_eval.specs.Evaluation.{Seen, Evaluated}
use Rattle.ped_bodies.specs.ped_eval.specs.Runs.{Ending, going, stopped, failed, Run, nothing_done, followed_by, then_run, does, on_value, on}
use Rattle.ped_bodies.specs.ped_eval.specs.Outcomes.{Ends}
use Rattle.ped_bodies.specs.ped_laws.specs.Runs.Seeing.{Holds, ComesTo}
use Rattle.ped_bodies.specs.ped_laws.specs.Runs.Replaying.{Finish, goes_on, stops, faults, finish_of, ending_with, act, Replays, IsToldByActs}
use Rattle.ped_bodies.specs.ped_laws.proofs.RunLaws.Told.{own_run, replays_behind, replays_stopped, replays_act, replays_on}
use Rattle.ped_bodies.specs.ped_laws.proofs.RunLaws.Joined.{replays_nothing}
use Rattle.ped_loop_runs.specs.Pasting.{AreChangedBy}

old_append : (ps qs : List Part) → old_parts (ps ++ qs) ≡ old_parts ps ++ old_parts qs
old_append [] qs = refl
old_append (same acts ∷ ps) qs = ap (λ (z : List Act). acts ++ z) (old_append ps qs) ∙ sym (append_assoc acts (old_parts ps) (old_parts qs))
old_append (changed old new ∷ ps) qs = ap (λ (z : List Act). old ++ z) (old_append ps qs) ∙ sym (append_assoc old (old_parts ps) (old_parts qs))

new_append : (ps qs : List Part) → new_parts (ps ++ qs) ≡ new_parts ps ++ new_parts qs
new_append [] qs = refl
new_append (same acts ∷ ps) qs = ap (λ (z : List Act). acts ++ z) (new_append ps qs) ∙ sym (append_assoc acts (new_parts ps) (new_parts qs))
new_append (changed old new ∷ ps) qs = ap (λ (z : List Act). new ++ z) (new_append ps qs) ∙ sym (append_assoc new (new_parts ps) (new_parts qs))

module _ (By : List Act → List Act → Store → List Act → List Act → Type 0) where
  abbrev Changed : List Act → List Part → List Act → Store → Type 0
  Changed = AreChangedBy By

  further : (front acts others : List Act) (qs : List Part) (behind : List Act) (u : Store) → Changed (front ++ (acts ++ others)) qs behind (store_after (acts ++ others) u) → Changed ((front ++ acts) ++ others) qs behind (store_after others (store_after acts u))
  further front acts others qs behind u k =
      subst (λ (z : List Act). Changed z qs behind (store_after others (store_after acts u))) (sym (append_assoc front acts others)) (subst (Changed (front ++ (acts ++ others)) qs behind) (after_append acts others u) k)

  exchanged_append : (ps qs : List Part) (front behind : List Act) (u : Store) → Changed front ps (old_parts qs ++ behind) u → Changed (front ++ old_parts ps) qs behind (store_after (old_parts ps) u) → Changed front (ps ++ qs) behind u
  exchanged_append [] qs front behind u h k = subst (λ (z : List Act). Changed z qs behind u) (append-nil front) k
  exchanged_append (same acts ∷ ps) qs front behind u h k = exchanged_append ps qs (front ++ acts) behind (store_after acts u) h (further front acts (old_parts ps) qs behind u k)
  exchanged_append (changed old new ∷ ps) qs front behind u h k = (
    subst (λ (z : List Act). By front z u old new) (sym (ap (λ (z : List Act). z ++ behind) (old_append ps qs) ∙ append_assoc (old_parts ps) (old_parts qs) behind)) h.0,
    exchanged_append ps qs (front ++ old) behind (store_after old u) h.1 (further front old (old_parts ps) qs behind u k),
  )

  -- what was done in parts, of which the changed ones are changed so; and a new run does the new parts and ends alike
  pub record IsJoined (old : Run) (new : Store → Run) (front behind : List Act) (u : Store) : Type 0 where
    pub parts : List Part
    pub old_is : old_parts parts ≡ old.acts
    pub exchanged : Changed front parts behind u
    pub replays : Replays new (new_parts parts) (finish_of old.ending)

  -- a piece of the program's run that ends without a fault, where acts are done
  abbrev pub AreJoined : (List Act → List Act → List Act → Store → Type 0) → (Store → Run) → (Store → Run) → Type 0
  AreJoined Around old new = (front behind : List Act) (u : Store) → Around front (old u).acts behind u → Ends (old u).ending → IsJoined (old u) new front behind u

  pub joined_near : (Around : List Act → List Act → List Act → Store → Type 0) (f other : Store → Run) → ((front behind : List Act) (u : Store) → Around front (f u).acts behind u → Replays other (f u).acts (finish_of (f u).ending)) → AreJoined Around f other
  joined_near Around f other alike front behind u d e = record {
    parts = same (f u).acts ∷ [];
    old_is = append-nil (f u).acts;
    exchanged = tt;
    replays = subst (λ (acts : List Act). Replays other acts (finish_of (f u).ending)) (sym (append-nil (f u).acts)) (alike front behind u d);
  }

  pub joined_nothing : (Around : List Act → List Act → List Act → Store → Type 0) → AreJoined Around nothing_done nothing_done
  joined_nothing Around front behind u d e = record { parts = []; old_is = refl; exchanged = tt; replays = replays_nothing }

  -- one run and then another
  first_ends : (acts : List Act) (e : Ending) (next : Store → Run) → Ends (followed_by acts e next).ending → Ends e
  first_ends acts (going u) next h = tt
  first_ends acts (stopped u) next h = h
  first_ends acts (failed fault n) next h = h

  module _ (Around First Rest : List Act → List Act → List Act → Store → Type 0) (g other more : Store → Run) (front behind : List Act) (u : Store) (acts : List Act)
      (to_first : (v : Store) → Around front (acts ++ (g v).acts) behind u → First front acts ((g v).acts ++ behind) u) (only : Around front acts behind u → First front acts behind u)
      (to_rest : Around front (acts ++ (g (store_after acts u)).acts) behind u → Rest (front ++ acts) (g (store_after acts u)).acts behind (store_after acts u)) where
    joined : (finish : Finish) → ((b : List Act) → First front acts b u → IsJoined (record { acts = acts; ending = ending_with finish (store_after acts u) }) other front b u)
        → AreJoined Rest g more → Around front (followed_by acts (ending_with finish (store_after acts u)) g).acts behind u
        → Ends (followed_by acts (ending_with finish (store_after acts u)) g).ending → IsJoined (followed_by acts (ending_with finish (store_after acts u)) g) (λ v. then_run (other v) more) front behind u
    joined goes_on first k d e =
        let v = store_after acts u in
        let n = k (front ++ acts) behind v (to_rest d) e in
        let h = first ((g v).acts ++ behind) (to_first v d) in
        record {
          parts = h.parts ++ n.parts;
          old_is = old_append h.parts n.parts ∙ (λ i. h.old_is i ++ n.old_is i);
          exchanged = exchanged_append h.parts n.parts front behind u (subst (λ (z : List Act). Changed front h.parts (z ++ behind) u) (sym n.old_is) h.exchanged)
              (subst (λ (done : List Act). Changed (front ++ done) n.parts behind (store_after done u)) (sym h.old_is) n.exchanged);
          replays = subst (λ (done : List Act). Replays (λ v. then_run (other v) more) done (finish_of (g (store_after acts u)).ending)) (sym (new_append h.parts n.parts))
              (replays_behind other more (new_parts h.parts) (new_parts n.parts) (finish_of (g (store_after acts u)).ending) h.replays n.replays);
        }
    joined stops first k d e = let h = first behind (only d) in record { parts = h.parts; old_is = h.old_is; exchanged = h.exchanged; replays = replays_stopped other more (new_parts h.parts) h.replays }
    joined (faults fault n) first k d e = absurd e

  pub joined_then : (Around First Rest : List Act → List Act → List Act → Store → Type 0) (f g other more : Store → Run) → IsToldByActs f
      → ((front behind : List Act) (u v : Store) → Around front ((f u).acts ++ (g v).acts) behind u → First front (f u).acts ((g v).acts ++ behind) u)
      → ((front behind : List Act) (u : Store) → Around front (f u).acts behind u → First front (f u).acts behind u)
      → ((front behind : List Act) (u : Store) → Around front ((f u).acts ++ (g (store_after (f u).acts u)).acts) behind u → Rest (front ++ (f u).acts) (g (store_after (f u).acts u)).acts behind (store_after (f u).acts u))
      → AreJoined First f other → AreJoined Rest g more → AreJoined Around (λ u. then_run (f u) g) (λ u. then_run (other u) more)
  joined_then Around First Rest f g other more told to_first only to_rest h k front behind u d e =
      let own = own_run f told u in
      subst (λ (r : Run). ((b : List Act) → First front (f u).acts b u → IsJoined r other front b u) → Around front (then_run r g).acts behind u → Ends (then_run r g).ending → IsJoined (then_run r g) (λ v. then_run (other v) more) front behind u) (sym own)
      (λ first done ends. joined Around First Rest g other more front behind u (f u).acts (to_first front behind u) (only front behind u) (to_rest front behind u) (finish_of (f u).ending) first k done ends)
      (λ b a. h front b u a (first_ends (f u).acts (f u).ending g e)) d e

  -- an act and then a run; the act stays, or is changed
  pub joined_act : (step : Step) (at : Place) (touches others : List Touch) (next more : Store → Run) (front behind : List Act) (u : Store) → others ≡ touches
      → IsJoined (next (store_behind touches u)) more (front ++ act step at touches ∷ []) behind (store_behind touches u) → IsJoined (does step at touches next u) (does step at others more) front behind u
  joined_act step at touches others next more front behind u is h = record {
    parts = same (act step at touches ∷ []) ∷ h.parts;
    old_is = ap (λ (acts : List Act). act step at touches ∷ acts) h.old_is;
    exchanged = h.exchanged;
    replays = subst (λ (ts : List Touch). Replays (does step at ts more) (act step at touches ∷ new_parts h.parts) (finish_of (next (store_behind touches u)).ending)) (sym is)
        (replays_act step at touches more (new_parts h.parts) (finish_of (next (store_behind touches u)).ending) h.replays);
  }

  pub joined_changed : (step : Step) (at : Place) (touches others : List Touch) (next more : Store → Run) (front behind : List Act) (u : Store)
      → By front ((next (store_behind touches u)).acts ++ behind) u (act step at touches ∷ []) (act step at others ∷ [])
      → IsJoined (next (store_behind touches u)) more (front ++ act step at touches ∷ []) behind (store_behind touches u) → IsJoined (does step at touches next u) (does step at others more) front behind u
  joined_changed step at touches others next more front behind u by h = record {
    parts = changed (act step at touches ∷ []) (act step at others ∷ []) ∷ h.parts;
    old_is = ap (λ (acts : List Act). act step at touches ∷ acts) h.old_is;
    exchanged = (subst (λ (z : List Act). By front (z ++ behind) u (act step at touches ∷ []) (act step at others ∷ [])) (sym h.old_is) by, h.exchanged);
    replays = replays_act step at others more (new_parts h.parts) (finish_of (next (store_behind touches u)).ending) h.replays;
  }

  -- an evaluation, an act that reads what it has seen, and then a run; another evaluation comes to the same, and the act stays or is changed
  module _ {A : Type 0} (at : Place) (e other : Store → Evaluated A) (steps : List Seen → A → Step) (touches others : List Seen → A → List Touch) (next more : List Seen → A → Store → Run)
      (found : (seen : List Seen) (x : A) (u : Store) → Find (others seen x) u → Holds u seen) where
    abbrev Afterwards : (List Seen → A → Store → Run) → Store → Run
    Afterwards following u = on at (e u) (λ seen x. does (steps seen x) at (touches seen x) (following seen x) u)

    abbrev Instead : Store → Run
    Instead u = on at (other u) (λ seen x. does (steps seen x) at (others seen x) (more seen x) u)

    abbrev Then : Store → List Seen → Result A ℕ → Run
    Then u seen r = on_value at seen r (λ seen x. does (steps seen x) at (touches seen x) (next seen x) u)

    abbrev Old : List Seen → A → Act
    Old seen x = act (steps seen x) at (touches seen x)

    abbrev New : List Seen → A → Act
    New seen x = act (steps seen x) at (others seen x)

    -- what is known where the evaluation has come to this
    pub record IsContinued (front behind : List Act) (u : Store) (seen : List Seen) (x : A) : Type 0 where
      pub comes : ComesTo other seen (Ok x)
      pub first : (others seen x ≡ touches seen x) ⊎ By front ((next seen x (store_behind (touches seen x) u)).acts ++ behind) u (Old seen x ∷ []) (New seen x ∷ [])
      pub rest : IsJoined (next seen x (store_behind (touches seen x) u)) (more seen x) (front ++ Old seen x ∷ []) behind (store_behind (touches seen x) u)

    module _ (D : Run → Type 0) (front behind : List Act) (u : Store)
        (pasted : (seen : List Seen) (x : A) → e u ≡ record { seen = seen; result = Ok x } → D (Then u seen (Ok x)) → Ends (next seen x (store_behind (touches seen x) u)).ending → IsContinued front behind u seen x) where
      replayed : (seen : List Seen) (x : A) → IsContinued front behind u seen x → (acts : List Act) (finish : Finish) → Replays (more seen x) acts finish → Replays Instead (New seen x ∷ acts) finish
      replayed seen x k acts finish h = replays_on at other (steps seen x) (λ v seen x. others seen x) steps more seen x (others seen x) acts finish k.comes refl (λ v f. (found seen x v f, refl)) h

      came : (seen : List Seen) (r : Result A ℕ) → e u ≡ record { seen = seen; result = r } → D (Then u seen r) → Ends (Then u seen r).ending → IsJoined (Then u seen r) Instead front behind u
      came seen (Ok x) is d ends = continued k.first
        where
          k : IsContinued front behind u seen x
          k = pasted seen x is d ends

          finish : Finish
          finish = finish_of (next seen x (store_behind (touches seen x) u)).ending

          continued : (others seen x ≡ touches seen x) ⊎ By front ((next seen x (store_behind (touches seen x) u)).acts ++ behind) u (Old seen x ∷ []) (New seen x ∷ []) → IsJoined (Then u seen (Ok x)) Instead front behind u
          continued (inl stays) = record {
            parts = same (Old seen x ∷ []) ∷ k.rest.parts;
            old_is = ap (λ (acts : List Act). Old seen x ∷ acts) k.rest.old_is;
            exchanged = k.rest.exchanged;
            replays = subst (λ (ts : List Touch). Replays Instead (act (steps seen x) at ts ∷ new_parts k.rest.parts) finish) stays (replayed seen x k (new_parts k.rest.parts) finish k.rest.replays);
          }
          continued (inr by) = record {
            parts = changed (Old seen x ∷ []) (New seen x ∷ []) ∷ k.rest.parts;
            old_is = ap (λ (acts : List Act). Old seen x ∷ acts) k.rest.old_is;
            exchanged = (subst (λ (z : List Act). By front (z ++ behind) u (Old seen x ∷ []) (New seen x ∷ [])) (sym k.rest.old_is) by, k.rest.exchanged);
            replays = replayed seen x k (new_parts k.rest.parts) finish k.rest.replays;
          }
      came seen (Err fault) is d ends = absurd ends

      pub joined_on : D (Afterwards next u) → Ends (Afterwards next u).ending → IsJoined (Afterwards next u) Instead front behind u
      joined_on d ends = came (e u).seen (e u).result refl d ends
