-- Behind a PARALLEL DO nobody asks for the variables of the DO loops in it: they are undefined, and of these cells none is shown at the end.
use Rattle.std.proofs.Common.{◌≡◌, ◌⊎◌, ℕ, ℤ, ◌+◌, List, [], ◌∷◌, ◌++◌, Bool, true, false, ◌&&◌, ◌||◌, ◌==◌, not, IsTrue, inl, inr, refl, sym, ap, subst, ◌∙◌, arith, if◌then◌else◌}
use Rattle.std.specs.List.{flat_map}
use Rattle.std.specs.Str.Lines.{lines}
use Rattle.std.proofs.lemmas.Bool.{both_ways}
use Rattle.ped_base.proofs.NameEquality.{same_is}
use Rattle.ped_base.specs.Lists.{is_among, is_same_text}
use Rattle.ped_tree.specs.NamesIn.{all_loop_variables, loop_variables, saved_in}
use Rattle.ped_tree.specs.Tree.{Do, ProgramTree}
use Rattle.ped_rules.specs.ped_loop_runs.proofs.LoopLaws.OneForOneNames.{variables_unnamed}
use Rattle.ped_rules.specs.ped_loop_runs.proofs.LoopLaws.OneForOneStands.{false_unless}
use Rattle.ped_rules.specs.ped_loop_runs.specs.OtherCopies.{IsOtherExit}
use Rattle.ped_rules.specs.ped_steps.proofs.RunLaws.ScalarNames.{shown_scalar}
use Rattle.ped_rules.specs.ped_symbols.specs.NameRefusals.{IsValid}
use Rattle.ped_rules.specs.ped_laws.proofs.ActLaws.Lists.{in_parts, in_right}
use Rattle.ped_rules.specs.ped_laws.proofs.ActLaws.SameCells.{cell_itself, cell_is}
use Rattle.ped_rules.specs.ped_laws.proofs.ActLaws.Stores.{behind_append, fits_find, fits_rest}
use Rattle.ped_rules.specs.ped_laws.proofs.FlowRunLaws.DeadExits.{exit_followed}
use Rattle.ped_rules.specs.ped_laws.proofs.FlowRunLaws.Stopping.{fitting_stops}
use Rattle.ped_rules.specs.ped_laws.proofs.RunLaws.Defined.{numbers_read}
use Rattle.ped_rules.specs.ped_laws.proofs.RunLaws.StatementsTold.{all_told}
use Rattle.ped_rules.specs.ped_laws.proofs.RunLaws.Turning.{once_among}
use Rattle.ped_rules.specs.ped_laws.specs.Acts.Fitting.{Find, IsFound, Fits, store_after, touches_of}
use Rattle.ped_rules.specs.ped_laws.specs.Acts.Orders.{IsIn}
use Rattle.ped_rules.specs.ped_laws.specs.Acts.Sets.{needed_by, needs, read_first, wants, written}
use Rattle.ped_rules.specs.ped_laws.specs.FlowRuns.Exits.{Follows, IsExit, IsOneToOne, leaves}
use Rattle.ped_rules.specs.ped_laws.specs.Runs.Replaying.{act, finish_of, has_fault}
use Rattle.ped_rules.specs.ped_eval.specs.Loops.{undefined_all}
use Rattle.ped_rules.specs.ped_eval.specs.Outcomes.{Ends, run_of, setting_of}
use Rattle.ped_rules.specs.ped_eval.specs.Runs.{Ending, failed, going, stopped}
use Rattle.ped_rules.specs.ped_eval.specs.Scopes.{Scope, Setting, cell_of, place_of, turns_of}
use Rattle.ped_rules.specs.ped_store.specs.Acts.{Act, Manner, Touch, is_told, iterations_of, reads, store_behind, touched, writes}
use Rattle.ped_rules.specs.ped_store.specs.Cells.{Cell, Private, Scalar, same_cell}
use Rattle.ped_rules.specs.ped_store.specs.Races.{is_lines}
use Rattle.ped_rules.specs.ped_store.specs.Stores.{Number, Store, Undefined, put, store_at_start}
use Rattle.ped_rules.specs.ped_flow.specs.Events.{Event, overwrites}
use Rattle.ped_rules.specs.ped_flow.specs.PathSets.{Whole}
use Rattle.ped_rules.specs.ped_flow.specs.Paths.{paths_from_exit}
use Rattle.ped_splits.proofs.RenameShown.{MayBeShown}

-- touches find what the store holds, so a cell that they need holds a number, where each of their reads of it finds one
pub needed_number : (ts : List Touch) (s : Store) (c : Cell) → ((t : Touch) → IsIn t ts → t.manner ≡ reads → t.cell ≡ c → (n : ℤ) × (t.content ≡ Number n)) → Find ts s → needed_by ts c ≡ true → (n : ℤ) × (s c ≡ Number n)
needed_number [] s c h f k = absurd cc
needed_number (t ∷ ts) s c h f k = go (needed_number ts (touched t.manner t.cell t.content s) c (λ u i. h u (inr i)) f.1) (same_cell t.cell c) refl
  where
    elsewhere : (m : Manner) → same_cell t.cell c ≡ false → touched m t.cell t.content s c ≡ s c
    elsewhere writes e = ap (λ (b : Bool). if b then t.content else s c) e
    elsewhere reads e = refl
    elsewhere is_told e = refl

    told : (needed_by ts c ≡ true → (n : ℤ) × (touched t.manner t.cell t.content s c ≡ Number n)) → (m : Manner) → t.manner ≡ m → t.cell ≡ c → read_first m (needed_by ts c) ≡ true → (n : ℤ) × (s c ≡ Number n)
    told more reads e same q =
        let z = h t (inl refl) e same in
        let found : s t.cell ≡ t.content = subst (λ (m : Manner). IsFound m t.cell t.content s) e f.0 in
        (z.0, ap s (sym same) ∙ found ∙ z.1)
    told more writes e same q = absurd cc
    told more is_told e same q = let z = more q in (z.0, sym (ap (λ (m : Manner). touched m t.cell t.content s c) e) ∙ z.1)

    go : (needed_by ts c ≡ true → (n : ℤ) × (touched t.manner t.cell t.content s c ≡ Number n)) → (b : Bool) → same_cell t.cell c ≡ b → (n : ℤ) × (s c ≡ Number n)
    go more true e = told more t.manner refl (cell_is t.cell c e) (sym (ap (λ (b : Bool). if b then read_first t.manner (needed_by ts c) else needed_by ts c) e) ∙ k)
    go more false e = let z = more (sym (ap (λ (b : Bool). if b then read_first t.manner (needed_by ts c) else needed_by ts c) e) ∙ k) in (z.0, sym (elsewhere t.manner e) ∙ z.1)

pub in_touches : (acts : List Act) (v : Touch) → IsIn v (touches_of acts) → (a : Act) × IsIn a acts × IsIn v a.touches
in_touches [] v i = absurd i
in_touches (a ∷ acts) v i = elim (in_parts v a.touches (touches_of acts) i) [
  | inl j ↦ (a, inl refl, j)
  | inr j ↦ (let r = in_touches acts v j in (r.0, inr r.1, r.2))
]

-- what becomes undefined is so behind that
undefined_there : (S : Scope) (w : List ℕ) (xs : List (List ℕ)) (v : Store) → (v (cell_of S w) ≡ Undefined) ⊎ (is_among w xs ≡ true) → store_behind (undefined_all S xs) v (cell_of S w) ≡ Undefined
undefined_there S w [] v h = elim h [ inl e ↦ e | inr k ↦ absurd cc ]
undefined_there S w (y ∷ xs) v h = undefined_there S w xs (put (cell_of S y) Undefined v) (by (same_cell (cell_of S y) (cell_of S w)) refl h)
  where
    put_there : (b : Bool) → same_cell (cell_of S y) (cell_of S w) ≡ b → put (cell_of S y) Undefined v (cell_of S w) ≡ (if b then Undefined else v (cell_of S w))
    put_there b e = ap (λ (z : Bool). if z then Undefined else v (cell_of S w)) e

    among : same_cell (cell_of S y) (cell_of S w) ≡ false → (b : Bool) → is_same_text w y ≡ b → b || is_among w xs ≡ true → is_among w xs ≡ true
    among apart true e k = absurd (both_ways (same_cell (cell_of S y) (cell_of S w)) apart (ap (λ (z : List ℕ). same_cell (cell_of S y) (cell_of S z)) (same_is w y e) ∙ cell_itself (cell_of S y)))
    among apart false e k = k

    by : (b : Bool) → same_cell (cell_of S y) (cell_of S w) ≡ b → (v (cell_of S w) ≡ Undefined) ⊎ (is_among w (y ∷ xs) ≡ true) → (put (cell_of S y) Undefined v (cell_of S w) ≡ Undefined) ⊎ (is_among w xs ≡ true)
    by true e k = inl (put_there true e)
    by false e (inl k) = inl (put_there false e ∙ k)
    by false e (inr k) = inr (among e (is_same_text w y) refl k)

pub faultless : (e : Ending) → Ends e → has_fault (finish_of e) ≡ false
faultless (going v) h = refl
faultless (stopped v) h = refl
faultless (failed fault n) h = absurd h

-- a scalar's cell is no line
scalar_line : (S : Scope) (w : List ℕ) → is_lines (cell_of S w) ≡ false
scalar_line [] w = refl
scalar_line (f ∷ S) w = go (is_among w f.private) (scalar_line S w)
  where
    go : (b : Bool) → is_lines (cell_of S w) ≡ false → is_lines (if b then Private w (iterations_of (turns_of (f ∷ S))) else cell_of S w) ≡ false
    go true more = refl
    go false more = more

module _ (t : ProgramTree) (valid : IsValid t) (shown : Cell → Bool) (may : MayBeShown t shown) (data_bytes : List ℕ) (ends : Ends (run_of t data_bytes).ending) (names : List (List ℕ)) (apart : Cell → Bool) (l : ℕ) (front behind : List Act) (u : Store) (old new : List Act)
    (e : IsOtherExit names apart (setting_of t) t (store_at_start (lines data_bytes)) l front behind u old new) (w : List ℕ) (index : is_among w (all_loop_variables e.round.loop.body) ≡ true) where
  abbrev p : Setting
  p = setting_of t

  abbrev start : Store
  start = store_at_start (lines data_bytes)

  abbrev c : Cell
  c = cell_of e.scope w

  abbrev leaving : Act
  leaving = act e.step (place_of (setting_of t) e.number e.scope) (e.first ++ undefined_all e.scope e.undefined)

  among : is_among w (loop_variables (Do e.round.loop.head e.round.loop.body)) ≡ true
  among = or_so (is_same_text w e.round.loop.head.variable) (is_among w (all_loop_variables e.round.loop.body)) index
    where
      or_so : (a b : Bool) → b ≡ true → a || b ≡ true
      or_so true b h = refl
      or_so false b h = h

  undefined_among : is_among w e.undefined ≡ true
  undefined_among = ap (is_among w) e.undefined_is ∙ once_among w (all_loop_variables e.round.loop.body) ∙ index

  whole : (run_of t data_bytes).acts ≡ front ++ leaving ∷ behind
  whole = e.whole ∙ ap (λ (acts : List Act). front ++ (acts ++ behind)) e.old_is

  -- behind it the variable is undefined
  undefined_behind : store_after (leaving ∷ []) u c ≡ Undefined
  undefined_behind =
      ap (λ (v : Store). v c) (behind_append e.first (undefined_all e.scope e.undefined) u)
      ∙ undefined_there e.scope w e.undefined (store_behind e.first u) (inr undefined_among)

  fits_behind : Fits behind (store_after (leaving ∷ []) u)
  fits_behind =
      let all : Fits (front ++ leaving ∷ behind) start = subst (λ (acts : List Act). Fits acts start) whole ((all_told p t.body 1 []).fits start) in
      fits_rest (leaving ∷ []) behind u (subst (Fits (leaving ∷ behind)) (sym e.from) (fits_rest front (leaving ∷ behind) start all))

  unneeded : needs behind c ≡ false
  unneeded = false_unless (needs behind c) (λ n.
      let r = needed_number (touches_of behind) (store_after (leaving ∷ []) u) c
      (λ v i m same.
      let a = in_touches behind v i in
      numbers_read p t.body 1 [] start a.0 v (faultless (run_of t data_bytes).ending ends) (subst (IsIn a.0) (sym whole) (in_right a.0 front (leaving ∷ behind) (inr a.1))) a.2 m (ap is_lines same ∙ scalar_line e.scope w))
      (fits_find behind (store_after (leaving ∷ []) u) fits_behind) n in
      let wrong : Undefined ≡ Number r.0 = sym undefined_behind ∙ r.1 in
      absurd cc)

  one : IsOneToOne p.number
  one m n h = h

  exit : IsExit p t start e.number e.scope behind
  exit = record {
    ends = ends;
    front = front;
    act = leaving;
    whole = whole;
    leaves = (λ i. itself e.number i && e.leaves i);
    iterations = e.iterations;
    place = refl;
  }
    where
      itself : (n : ℕ) → (n == n) ≡ true
      itself n = grind arith

  -- nor is it shown
  written_behind : shown c ≡ true → written behind c ≡ true
  written_behind h = by (overwrites w path.0) refl
    where
      why : (is_among w (flat_map saved_in t.decls) ≡ true) × (c ≡ Scalar w)
      why = shown_scalar t w e.scope (may.at_end c h)

      path : (path : List Event) × Whole (paths_from_exit t e.number) path × Follows w (Scalar w) c path (touches_of behind)
      path = exit_followed p one t w (variables_unnamed t valid e.number e.round.loop w among) (fitting_stops t valid.fits) start e.number e.scope behind exit

      is_so : (b : Bool) → b ≡ true → IsTrue b
      is_so b q = q

      by : (b : Bool) → overwrites w path.0 ≡ b → written behind c ≡ true
      by true q = path.2.written why.1 q
      by false q =
          absurd (may.unshown e.number e.round.loop e.round.parallel w (record { loop = e.round.loop; among = is_so (is_among w (loop_variables (Do e.round.loop.head e.round.loop.body))) among })
          (record { saved = is_so (is_among w (flat_map saved_in t.decls)) why.0; path = path.0; leads = path.1; kept = q })
          (subst (λ (z : Cell). shown z ≡ true) why.1 h))

  pub unwanted_exit : wants shown behind (cell_of e.scope w) ≡ false
  unwanted_exit = (λ i. unneeded i || (shown c && not (written behind c))) ∙ by (shown c) refl
    where
      by : (b : Bool) → shown c ≡ b → shown c && not (written behind c) ≡ false
      by true h = (λ i. shown c && not (written_behind h i)) ∙ no_more (shown c)
        where
          no_more : (b : Bool) → b && false ≡ false
          no_more true = refl
          no_more false = refl
      by false h = ap (λ (b : Bool). b && not (written behind c)) h
