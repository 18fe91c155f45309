-- Where the accesses of a new run come from, in which a DO stands in the place of another.
use Rattle.std.proofs.Common.{◌≡◌, ◌⊎◌, ℕ, ◌≤◌, ◌<◌, List, [], ◌∷◌, ◌++◌, Bool, true, false, ◌||◌, not, refl, sym, ap, ◌∙◌, subst, inl, inr, arith, append-nil}
use Rattle.ped_bodies.specs.ped_flow.specs.ped_tree.specs.Tree.{Head, StmtTree, StmtTrees, Do, ProgramTree}
use Rattle.ped_bodies.specs.ped_flow.specs.ped_tree.specs.NamesIn.{loop_variables}
use Rattle.ped_bodies.specs.ped_flow.specs.ped_tree.specs.Numbering.{statements_count}
use Rattle.ped_bodies.specs.ped_flow.specs.Questions.{LoopOf}
use Rattle.ped_bodies.specs.ped_store.specs.Cells.{Cell, In, Out, Scalar, Element, Private, Iteration}
use Rattle.ped_bodies.specs.ped_store.specs.Stores.{Store}
use Rattle.ped_bodies.specs.ped_store.specs.Acts.{Manner, reads, writes, is_told, Touch, Place, Act, iterations_of}
use Rattle.ped_bodies.specs.ped_store.specs.Races.{Access, is_lines, is_write, is_access, accesses_of, accesses}
use Rattle.ped_bodies.specs.ped_eval.specs.Evaluation.{numbered}
use Rattle.ped_bodies.specs.ped_eval.specs.Loops.{Entered, exit_touches, exit_when_none, undefined_by, undefined_all, frame}
use Rattle.ped_bodies.specs.ped_eval.specs.Scopes.{Setting, Scope, turns_of, place_of}
use Rattle.ped_bodies.specs.ped_eval.specs.Outcomes.{setting_of}
use Rattle.ped_bodies.specs.ped_eval.specs.Runs.{Ending, going, stopped, failed, Run, followed_by, nothing_done, run, run_all}
use Rattle.ped_bodies.specs.ped_laws.specs.Acts.Fitting.{store_after}
use Rattle.ped_bodies.specs.ped_laws.specs.Acts.Orders.{IsIn}
use Rattle.ped_bodies.specs.ped_laws.specs.Acts.Pieces.{Part, same, changed, old_parts, new_parts}
use Rattle.ped_bodies.specs.ped_laws.specs.Runs.Replaying.{goes_on, finish_of}
use Rattle.ped_bodies.specs.ped_laws.proofs.ActLaws.Lists.{in_left, in_right, in_parts}
use Rattle.ped_bodies.specs.ped_laws.proofs.ActLaws.Conflicting.{access_by, access_in, access_place, accesses_in}
use Rattle.ped_bodies.specs.ped_steps.specs.Replacing.{alone}
use Rattle.ped_bodies.specs.ped_steps.proofs.RunLaws.AccessTouches.{accesses_from, touch_of}
use Rattle.ped_bodies.specs.Likewise.{NamesScalars, IsMadeLikewise, IsOnlyTold}
use Rattle.ped_bodies.specs.Moving.{own_number}
use Rattle.ped_bodies.specs.Trips.{loop_entry, loop_acts, bounds_seen, entered_from}
use Rattle.ped_bodies.proofs.BodyLaws.LikewiseAccesses.{likewise_accesses}
use Rattle.ped_loop_runs.specs.Executions.{IsExecuted}
use Rattle.ped_loop_runs.specs.Pasting.{AreExchanged}
use Rattle.ped_loop_runs.specs.OneForOne.{trip_of, trip_names, trip_idle, IsMadeInstead}
use Rattle.ped_loop_runs.proofs.LoopLaws.LoopParts.{numbered_reads, reads_numbered, behind_numbered, IsUndefined, other_undefined, own_unreferred, exit_of, when_none, IsControl, IsOfTrip, act_of_loop, trip_among}

-- names of trips leave elements, the data and the output alone, and these aren't idle
pub names_leave : (reversed : Bool) (front : List Iteration) (l n : ℕ) → NamesScalars (trip_names reversed front l n)
names_leave true front l n = record { element = λ x js. refl; input = refl; output = refl }
names_leave false front l n = record { element = λ x js. refl; input = refl; output = refl }

pub idle_no_lines : (reversed : Bool) (names : List (List ℕ)) (c : Cell) → trip_idle reversed names c ≡ true → is_lines c ≡ false
idle_no_lines true names c h = absurd cc
idle_no_lines false names (Scalar x) h = refl
idle_no_lines false names (Private x path) h = refl
idle_no_lines false names (Element x js) h = refl
idle_no_lines false names In h = absurd cc
idle_no_lines false names Out h = absurd cc

-- one statement alone does what it does
pub alone_acts : (p : Setting) (s : StmtTree) (n : ℕ) (scope : Scope) (u : Store) → (run_all p (alone s) n scope u).acts ≡ (run p s n scope u).acts
alone_acts p s n scope u = go (run p s n scope u).acts (run p s n scope u).ending
  where
    go : (acts : List Act) (e : Ending) → (followed_by acts e nothing_done).acts ≡ acts
    go acts (going v) = append-nil acts
    go acts (stopped v) = refl
    go acts (failed fault k) = refl

-- an access comes from one of these acts: in the same cell, of the same kind, in the same iterations, by a reference
pub record IsKept (acts : List Act) (b : Access) : Type 0 where
  pub origin : Access
  pub found : IsIn origin (accesses acts)
  pub cell : origin.cell ≡ b.cell
  pub writes : origin.writes ≡ b.writes
  pub turns : origin.place.turns ≡ b.place.turns
  pub referred : 0 < origin.reference

-- what is no line, or written, is an access
access_by_cell : (w l : Bool) (m k : Manner) → (is_write m || not l) ≡ true → m ≡ k → (is_write k || not l) ≡ true
access_by_cell w l m k h e = ap (λ (z : Manner). is_write z || not l) (sym e) ∙ h

module _ (t : ProgramTree) (start : Store) (whole : List Act) (l : ℕ) (loop : LoopOf t l) (h : Head) (reversed : Bool) where
  abbrev p : Setting
  p = setting_of t

  abbrev d : Head
  d = loop.head

  abbrev body : StmtTrees
  body = loop.body

  abbrev piece : Scope → Store → Run
  piece = run_all p (alone (Do d body)) l

  abbrev fresh : Scope → Store → List Act
  fresh scope s = (run_all p (alone (Do h body)) l scope s).acts

  abbrev count : ℕ
  count = statements_count (alone (Do d body))

  -- an access is made likewise in a trip of the new DO, in one execution
  pub record IsMadeInTrip (scope : Scope) (store : Store) (made : IsMadeInstead p d h body l reversed scope store) (b : Access) : Type 0 where
    pub number : ℕ
    pub from : 1 ≤ number
    pub to : number ≤ (entered_from p h body l scope store made.trips.bounds).count
    pub origin : Access
    pub in_trip : IsIn origin (accesses (made.old.trip (trip_of reversed (entered_from p d body l scope store made.old.bounds).count number)))
    pub found : IsIn origin (accesses whole)
    pub likewise : IsMadeLikewise (trip_names reversed (iterations_of (turns_of scope)) (p.number l) (entered_from p d body l scope store made.old.bounds).count) (trip_idle reversed (loop_variables (Do d body))) own_number
        (turns_of (frame (entered_from p d body l scope store made.old.bounds) (trip_of reversed (entered_from p d body l scope store made.old.bounds).count number) ∷ scope)) (turns_of (frame (entered_from p h body l scope store made.trips.bounds) number ∷ scope)) origin b

  -- in some execution
  pub record IsInTrip (b : Access) : Type 0 where
    pub scope : Scope
    pub store : Store
    pub front : List Act
    pub behind : List Act
    pub executed : IsExecuted p t start l count scope front (piece scope store).acts behind store
    pub goes : finish_of (piece scope store).ending ≡ goes_on
    pub made : IsMadeInstead p d h body l reversed scope store
    pub trip : IsMadeInTrip scope store made b

  abbrev pub Comes : Access → Type 0
  Comes b = IsKept whole b ⊎ IsInTrip b

  abbrev Unreferred : List Act → Type 0
  Unreferred acts = (a : Act) → IsIn a acts → (v : Touch) → IsIn v a.touches → v.manner ≡ is_told → v.reference ≡ 0

  abbrev Referred : List Act → Type 0
  Referred acts = (a : Act) → IsIn a acts → (v : Touch) → IsIn v a.touches → v.manner ≡ reads → is_lines v.cell ≡ false → 0 < v.reference

  module _ (private : h.private ≡ d.private) where
    -- one execution
    module _ (scope : Scope) (s : Store) (front behind : List Act) (executed : IsExecuted p t start l count scope front (piece scope s).acts behind s) (goes : finish_of (piece scope s).ending ≡ goes_on) (made : IsMadeInstead p d h body l reversed scope s)
        (sub : (a : Act) → IsIn a (piece scope s).acts → IsIn a whole) (news : List Act) (within : (a : Act) → IsIn a (fresh scope s) → IsIn a news) (unreferred : Unreferred news) where
      abbrev e : Entered
      e = entered_from p d body l scope s made.old.bounds

      abbrev z : Entered
      z = entered_from p h body l scope s made.trips.bounds

      abbrev at : Place
      at = place_of p l scope

      abbrev olds : List Act
      olds = loop_acts (bounds_seen p d scope s) e scope at made.old.trip

      abbrev made_acts : List Act
      made_acts = loop_acts (bounds_seen p h scope s) z scope at made.made.fresh

      old_among : (a : Act) → IsIn a olds → IsIn a whole
      old_among a i = sub a (subst (λ (acts : List Act). IsIn a acts) (sym (alone_acts p (Do d body) l scope s ∙ made.old.acts)) i)

      new_among : (a : Act) → IsIn a made_acts → IsIn a news
      new_among a i = within a (subst (λ (acts : List Act). IsIn a acts) (sym (alone_acts p (Do h body) l scope s ∙ made.acts)) i)

      -- a write by a reference when the DO is left
      exit_kept : (b : Access) (v : Touch) → IsIn v (exit_touches z scope) → b.place ≡ at → b.cell ≡ v.cell → b.writes ≡ is_write v.manner → 0 < v.reference → IsKept whole b
      exit_kept b v (inl is) place cell write some = let none : v.reference ≡ 0 = ap (λ (x : Touch). x.reference) is in absurd (omega (arith, none, some))
      exit_kept b v (inr i) place cell write some = elim (in_parts v (undefined_by scope z.behind_bounds h.private) (undefined_all scope z.inner) i) [
        | inr own ↦ (let none = own_unreferred scope z.inner v own in absurd (omega (arith, none, some)))
        | inl named ↦ of_name (other_undefined scope z.behind_bounds e.behind_bounds h.private v named)
      ]
        where
          of_name : (v.manner ≡ writes) × IsUndefined scope e.behind_bounds h.private v.cell → IsKept whole b
          of_name r =
              let x = exit_of (bounds_seen p d scope s) e scope at made.old.trip in
              let w = r.1.touch in
              let there : IsIn w (undefined_by scope e.behind_bounds d.private) = subst (λ (names : List (List ℕ)). IsIn w (undefined_by scope e.behind_bounds names)) private r.1.among in
              let touched : IsIn w x.by.touches = x.has w (inr (in_left w (undefined_by scope e.behind_bounds d.private) (undefined_all scope e.inner) there)) in
              let access : is_access w ≡ true = ap (λ (m : Manner). is_write m || not (is_lines w.cell)) r.1.manner in
              let first = behind_numbered 1 (bounds_seen p d scope s) in
              let less = r.1.referred in
              record {
                origin = access_by x.by w;
                found = accesses_in whole x.by (access_by x.by w) (old_among x.by x.found) (access_in x.by x.by.touches w touched access);
                cell = r.1.cell ∙ sym cell;
                writes = ap is_write r.1.manner ∙ sym (write ∙ ap is_write r.0);
                turns = ap (λ (q : Place). q.turns) (x.place ∙ sym place);
                referred = omega (arith, first, less);
              }

      -- a read of a bound
      bound_kept : (b : Access) (v : Touch) → IsIn v (numbered 1 (bounds_seen p h scope s)) → b.place ≡ at → b.cell ≡ v.cell → b.writes ≡ is_write v.manner → is_access v ≡ true → 0 < v.reference → IsKept whole b
      bound_kept b v i place cell write access some =
          let reading = numbered_reads 1 (bounds_seen p h scope s) v i some in
          let x = made.trips.among v i reading in
          let entry : Act = loop_entry (bounds_seen p d scope s) e scope at in
          let there : IsIn x.0 entry.touches = in_left x.0 (numbered 1 (bounds_seen p d scope s)) (exit_when_none e.count e scope) x.1 in
          let accessed : is_access x.0 ≡ true = (λ j. is_write ((x.2 ∙ sym reading) j) || not (is_lines (x.3 j))) ∙ access in
          let less = reads_numbered 1 (bounds_seen p d scope s) x.0 x.1 x.2 in
          record {
            origin = access_by entry x.0;
            found = accesses_in whole entry (access_by entry x.0) (old_among entry (inl refl)) (access_in entry entry.touches x.0 there accessed);
            cell = x.3 ∙ sym cell;
            writes = ap is_write (x.2 ∙ sym reading) ∙ sym write;
            turns = ap (λ (q : Place). q.turns) (sym place);
            referred = less;
          }

      entry_kept : (b : Access) → IsIn b (accesses_of (loop_entry (bounds_seen p h scope s) z scope at)) → 0 < b.reference → IsKept whole b
      entry_kept b j some =
          let entry : Act = loop_entry (bounds_seen p h scope s) z scope at in
          let v = touch_of entry entry.touches b j in
          let cell = ap (λ (x : Access). x.cell) v.3 in
          let write = ap (λ (x : Access). x.writes) v.3 in
          let referred : 0 < v.0.reference = subst (λ (k : ℕ). 0 < k) (ap (λ (x : Access). x.reference) v.3) some in
          let place = access_place entry b j in
          elim (in_parts v.0 (numbered 1 (bounds_seen p h scope s)) (exit_when_none z.count z scope) v.1) [
            | inl bound ↦ bound_kept b v.0 bound place cell write v.2 referred
            | inr exit ↦ exit_kept b v.0 (when_none (bounds_seen p h scope s) z scope at made.made.fresh z.count v.0 exit) place cell write referred
          ]

      control_kept : (a : Act) (b : Access) → IsControl (bounds_seen p h scope s) z scope at made.made.fresh a → IsIn b (accesses_of a) → 0 < b.reference → IsKept whole b
      control_kept a b control j some =
          let v = touch_of a a.touches b j in
          exit_kept b v.0 (control.touches v.0 v.1) (access_place a b j ∙ control.place) (ap (λ (x : Access). x.cell) v.3) (ap (λ (x : Access). x.writes) v.3) (subst (λ (k : ℕ). 0 < k) (ap (λ (x : Access). x.reference) v.3) some)

      trip_comes : (a : Act) (b : Access) → IsOfTrip (bounds_seen p h scope s) z scope at made.made.fresh a → IsIn b (accesses_of a) → 0 < b.reference → IsMadeInTrip scope s made b
      trip_comes a b trip j some = by (likewise_accesses (trip_names reversed (iterations_of (turns_of scope)) (p.number l) e.count) (trip_idle reversed (loop_variables (Do d body)))
          (names_leave reversed (iterations_of (turns_of scope)) (p.number l) e.count) (idle_no_lines reversed (loop_variables (Do d body))) own_number (turns_of (frame e (trip_of reversed e.count trip.number) ∷ scope)) (turns_of (frame z trip.number ∷ scope))
          (made.old.trip (trip_of reversed e.count trip.number)) (made.made.fresh trip.number) (made.made.likewise trip.number trip.from trip.to) b (accesses_in (made.made.fresh trip.number) a b trip.there j))
        where
          k : ℕ
          k = trip_of reversed e.count trip.number

          -- the old trip is one
          is_trip : (1 ≤ k) × (k ≤ e.count)
          is_trip = go reversed
            where
              go : (r : Bool) → (1 ≤ trip_of r e.count trip.number) × (trip_of r e.count trip.number ≤ e.count)
              go true = let low = trip.from in let high = trip.to in let same = made.trips.count in (omega (arith, high, same), omega (arith, low))
              go false = let high = trip.to in let same = made.trips.count in (trip.from, omega (arith, high, same))

          among : (x : Access) → IsIn x (accesses (made.old.trip k)) → IsIn x (accesses whole)
          among x i =
              let q = accesses_from (made.old.trip k) x i in
              accesses_in whole q.0 x (old_among q.0 (trip_among (bounds_seen p d scope s) e scope at made.old.trip k is_trip.0 is_trip.1 q.0 q.1)) q.2

          by : ((x : Access) × IsIn x (accesses (made.old.trip k)) × IsMadeLikewise (trip_names reversed (iterations_of (turns_of scope)) (p.number l) e.count) (trip_idle reversed (loop_variables (Do d body))) own_number (turns_of (frame e k ∷ scope)) (turns_of (frame z trip.number ∷ scope)) x b)
              ⊎ IsOnlyTold (made.made.fresh trip.number) b → IsMadeInTrip scope s made b
          by (inl r) = record {
            number = trip.number;
            from = trip.from;
            to = trip.to;
            origin = r.0;
            in_trip = r.1;
            found = among r.0 r.1;
            likewise = r.2;
          }
          by (inr told) =
              let there = new_among told.by (trip_among (bounds_seen p h scope s) z scope at made.made.fresh trip.number trip.from trip.to told.by told.found) in
              let none = unreferred told.by there told.touch told.among told.manner in
              let same = ap (λ (x : Access). x.reference) told.is in
              absurd (omega (arith, none, same, some))

      -- of the entry and of what leaves the DO, at its place, or of a trip
      pub execution_made : (a : Act) (b : Access) → IsIn a (fresh scope s) → IsIn b (accesses_of a) → 0 < b.reference → (IsKept whole b × (b.place.turns ≡ turns_of scope)) ⊎ IsMadeInTrip scope s made b
      execution_made a b i j some = elim (act_of_loop (bounds_seen p h scope s) z scope at made.made.fresh a (subst (λ (acts : List Act). IsIn a acts) (alone_acts p (Do h body) l scope s ∙ made.acts) i)) [
        | inl entry ↦ inl (entry_kept b (subst (λ (x : Act). IsIn b (accesses_of x)) entry j) some, ap (λ (q : Place). q.turns) (access_place a b j) ∙ ap (λ (x : Act). x.place.turns) entry)
        | inr r ↦ elim r [ inl trip ↦ inr (trip_comes a b trip j some) | inr control ↦ inl (control_kept a b control j some, ap (λ (q : Place). q.turns) (access_place a b j ∙ control.place)) ]
      ]

      pub execution_comes : (a : Act) (b : Access) → IsIn a (fresh scope s) → IsIn b (accesses_of a) → 0 < b.reference → Comes b
      execution_comes a b i j some = elim (execution_made a b i j some) [
        | inl k ↦ inl k.0
        | inr k ↦ inr (record { scope = scope; store = s; front = front; behind = behind; executed = executed; goes = goes; made = made; trip = k })
      ]

    -- all parts
    module _ (news : List Act) (unreferred : Unreferred news)
        (instead : (scope : Scope) (front behind : List Act) (s : Store) → IsExecuted p t start l count scope front (piece scope s).acts behind s → finish_of (piece scope s).ending ≡ goes_on → IsMadeInstead p d h body l reversed scope s) where
      act_comes : (front : List Act) (parts : List Part) (behind : List Act) (s : Store) → ((a : Act) → IsIn a (old_parts parts) → IsIn a whole) → ((a : Act) → IsIn a (new_parts parts) → IsIn a news) → AreExchanged p t start l count piece fresh front parts behind s
          → (a : Act) (b : Access) → IsIn a (new_parts parts) → IsIn b (accesses_of a) → 0 < b.reference → Comes b
      act_comes front [] behind s sub within exchanged a b i j some = absurd i
      act_comes front (same acts ∷ parts) behind s sub within exchanged a b i j some = elim (in_parts a acts (new_parts parts) i) [
        | inl k ↦ inl (record { origin = b; found = accesses_in whole a b (sub a (in_left a acts (old_parts parts) k)) j; cell = refl; writes = refl; turns = refl; referred = some })
        | inr k ↦ act_comes (front ++ acts) parts behind (store_after acts s) (λ c w. sub c (in_right c acts (old_parts parts) w)) (λ c w. within c (in_right c acts (new_parts parts) w)) exchanged a b k j some
      ]
      act_comes front (changed old new ∷ parts) behind s sub within exchanged a b i j some = elim (in_parts a new (new_parts parts) i) [
        | inl k ↦ (
            let x = exchanged.0 in
            execution_comes x.scope s front (old_parts parts ++ behind) x.executed x.goes (instead x.scope front (old_parts parts ++ behind) s x.executed x.goes)
            (λ c w. sub c (in_left c old (old_parts parts) (subst (λ (acts : List Act). IsIn c acts) (sym x.old_is) w))) news
            (λ c w. within c (in_left c new (new_parts parts) (subst (λ (acts : List Act). IsIn c acts) (sym x.new_is) w))) unreferred a b (subst (λ (acts : List Act). IsIn a acts) x.new_is k) j some
            )
        | inr k ↦ act_comes (front ++ old) parts behind (store_after old s) (λ c w. sub c (in_right c old (old_parts parts) w)) (λ c w. within c (in_right c new (new_parts parts) w)) exchanged.1 a b k j some
      ]

      pub access_comes : (parts : List Part) → old_parts parts ≡ whole → new_parts parts ≡ news → AreExchanged p t start l count piece fresh [] parts [] start → (b : Access) → IsIn b (accesses (new_parts parts)) → 0 < b.reference → Comes b
      access_comes parts olds_are news_are exchanged b i some =
          let r = accesses_from (new_parts parts) b i in
          act_comes [] parts [] start (λ a k. subst (λ (acts : List Act). IsIn a acts) olds_are k) (λ a k. subst (λ (acts : List Act). IsIn a acts) news_are k) exchanged r.0 b r.1 r.2 some
