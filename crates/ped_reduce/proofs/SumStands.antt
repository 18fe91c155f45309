-- The new acts may stand for those of the DO: they need none of the new arrays' elements, and leave what the DO leaves in all other cells.
use Rattle.std.proofs.Common.{◌≡◌, ℕ, ℤ, List, ◌++◌, Bool, true, false, ◌||◌, inr, refl, sym, ap, subst, ◌∙◌}
use Rattle.std.specs.Prelude.{not}
use Rattle.std.proofs.lemmas.Bool.{both_ways}
use Rattle.ped_base.specs.Dimensions.{Dimensions}
use Rattle.ped_tree.specs.Tree.{Head, StmtTrees, Do}
use Rattle.ped_rules.specs.ped_steps.specs.Replacing.{alone}
use Rattle.ped_rules.specs.ped_store.specs.Cells.{Cell, Scalar, Element, Private, In, Out}
use Rattle.ped_rules.specs.ped_store.specs.Stores.{Undefined, Number, Store}
use Rattle.ped_rules.specs.ped_store.specs.Acts.{Act}
use Rattle.ped_rules.specs.ped_store.specs.Races.{is_lines}
use Rattle.ped_rules.specs.ped_laws.specs.Acts.Fitting.{Fits, store_after}
use Rattle.ped_rules.specs.ped_laws.specs.Acts.Sets.{AgreeIn, needs, wants}
use Rattle.ped_rules.specs.ped_laws.specs.Acts.Pieces.{StandsFor}
use Rattle.ped_rules.specs.ped_laws.proofs.ActLaws.Renamings.{agreeing_fits, agreeing_leaves}
use Rattle.ped_rules.specs.ped_eval.specs.Scopes.{Setting, Scope, cell_of}
use Rattle.ped_rules.specs.ped_eval.specs.Runs.{going, Run, run, run_all}
use Rattle.ped_rules.specs.ped_laws.specs.Runs.Replaying.{Finish, goes_on, finish_of, ending_with, has_fault, Replays}
use Rattle.ped_rules.specs.ped_laws.proofs.RunLaws.Defined.{numbers_needed}
use Rattle.ped_rules.specs.ped_laws.proofs.RunLaws.StatementsTold.{all_told}
use Rattle.ped_rules.specs.ped_laws.proofs.RunLaws.Told.{own_run}
use Rattle.ped_reduce.specs.Lowering.{Partials}
use Rattle.ped_reduce.proofs.SumStores.{AreSmall, HaveArrays}
use Rattle.ped_reduce.proofs.SumBodies.{then_nothing}
use Rattle.ped_reduce.proofs.SumTrips.{AreNew}
use Rattle.ped_reduce.proofs.SumExits.{AllDistinct}
use Rattle.ped_reduce.proofs.SumWhole.{is_part, lowered, IsSummable, WholeGoes, whole_goes}

-- the store of a piece that goes on is the one that its acts leave
pub goes_to : (p : Setting) (ts : StmtTrees) (n : ℕ) (scope : Scope) (s : Store) → finish_of (run_all p ts n scope s).ending ≡ goes_on → (run_all p ts n scope s).ending ≡ going (store_after (run_all p ts n scope s).acts s)
goes_to p ts n scope s goes = ap (λ (r : Run). r.ending) (own_run (run_all p ts n scope) (all_told p ts n scope) s) ∙ ap (λ (x : Finish). ending_with x (store_after (run_all p ts n scope s).acts s)) goes

going_is : (s t : Store) → going s ≡ going t → s ≡ t
going_is s t e = cc

no_number : (v : ℤ) → Undefined ≡ Number v → ⊥
no_number v e = cc

no_line : (ps : List Partials) (c : Cell) → is_part ps c ≡ true → is_lines c ≡ false
no_line ps (Element x js) h = refl
no_line ps (Scalar x) h = absurd cc
no_line ps (Private x path) h = absurd cc
no_line ps In h = absurd cc
no_line ps Out h = absurd cc

-- cells that agree: all but the new arrays' elements, and of these again the ones that are wanted
abbrev pub agreed_but : List Partials → (Cell → Bool) → List Act → Cell → Bool
agreed_but ps shown acts c = not (is_part ps c) || wants shown acts c

module _ (bounds : List ℕ → Dimensions) (constants : List (List ℕ × ℤ)) (f f' : ℕ → ℕ) (ps : List Partials) (arrays : HaveArrays ps) (distinct : AllDistinct ps) (h : Head) (body : StmtTrees) (n m : ℕ) (scope : Scope) (a b : ℤ)
    (may : IsSummable bounds constants f f' ps arrays distinct h body n m scope a b) (s : Store) (small : AreSmall ps s) where
  abbrev old : Setting
  old = record { bounds = bounds; constants = constants; number = f }

  abbrev new : Setting
  new = record { bounds = bounds; constants = constants; number = f' }

  abbrev old_run : Run
  old_run = run_all old (alone (Do h body)) n scope s

  abbrev others : StmtTrees
  others = lowered bounds constants f f' ps arrays distinct h body n m scope a b

  abbrev new_run : Run
  new_run = run_all new (lowered bounds constants f f' ps arrays distinct h body n m scope a b) m scope s

  module _ (goes : finish_of (run_all old (alone (Do h body)) n scope s).ending ≡ goes_on) where
    abbrev t : Store
    t = store_after (run_all old (alone (Do h body)) n scope s).acts s

    alone_is : run_all old (alone (Do h body)) n scope s ≡ run old (Do h body) n scope s
    alone_is = then_nothing (run old (Do h body) n scope s)

    whole : WholeGoes bounds constants f f' ps arrays distinct h body n m scope a b may s t
    whole = whole_goes bounds constants f f' ps arrays distinct h body n m scope a b may s t small (ap (λ (r : Run). r.ending) (sym alone_is) ∙ goes_to old (alone (Do h body)) n scope s goes)

    new_goes : finish_of new_run.ending ≡ goes_on
    new_goes = ap finish_of whole.ending

    -- from each store that these acts fit the new statements do them
    pub replayed : Replays (run_all new others m scope) new_run.acts goes_on
    replayed = subst (Replays (run_all new others m scope) new_run.acts) new_goes ((all_told new others m scope).replays s)

    -- their acts come from the old ones, or are done in no PARALLEL DO
    pub its_acts : AreNew ps (cell_of scope h.variable) old_run.acts new_run.acts
    its_acts = subst (λ (z : Run). AreNew ps (cell_of scope h.variable) z.acts new_run.acts) (sym alone_is) whole.acts

    -- what they leave
    new_leaves : store_after new_run.acts s ≡ whole.behind
    new_leaves = going_is (store_after new_run.acts s) whole.behind (sym (goes_to new others m scope s new_goes) ∙ whole.ending)

    module _ (undefined : (c : Cell) → is_part ps c ≡ true → s c ≡ Undefined) where
      -- they need no element of the arrays, since these are undefined before
      pub unneeded : (c : Cell) → is_part ps c ≡ true → needs new_run.acts c ≡ true → ⊥
      unneeded c part needed =
          let number = numbers_needed new others m scope s c (ap has_fault new_goes) (no_line ps c part) needed in
          no_number number.0 (sym (undefined c part) ∙ number.1)

      module _ (shown : Cell → Bool) (behind : List Act) (unwanted : (c : Cell) → is_part ps c ≡ true → wants shown behind c ≡ false) (u : Store) (agree : AgreeIn (agreed_but ps shown (old_run.acts ++ behind)) s u) where
        same : (c : Cell) → is_part ps c ≡ false → s c ≡ u c
        same c none = agree c (ap (λ (d : Bool). not d || wants shown (old_run.acts ++ behind) c) none)

        fits : Fits new_run.acts u
        fits = agreeing_fits new_run.acts s u (λ c needed. by c needed (is_part ps c) refl) ((all_told new others m scope).fits s)
          where
            by : (c : Cell) → needs new_run.acts c ≡ true → (d : Bool) → is_part ps c ≡ d → s c ≡ u c
            by c needed true part = absurd (unneeded c part needed)
            by c needed false none = same c none

        leaves : AgreeIn (agreed_but ps shown behind) t (store_after new_run.acts u)
        leaves c asked = by (is_part ps c) refl
          where
            by : (d : Bool) → is_part ps c ≡ d → t c ≡ store_after new_run.acts u c
            by true part = absurd (both_ways (agreed_but ps shown behind c) ((λ i. not (part i) || wants shown behind c) ∙ unwanted c part) asked)
            by false none = sym (whole.same c none) ∙ ap (λ (x : Store). x c) (sym new_leaves) ∙ agreeing_leaves new_run.acts s u c (inr (same c none))

      -- so they may stand for the old ones
      pub stood : (shown : Cell → Bool) (behind : List Act) → ((c : Cell) → is_part ps c ≡ true → wants shown behind c ≡ false)
          → StandsFor (record { agreed = agreed_but ps shown (old_run.acts ++ behind); old = old_run.acts; new = new_run.acts }) (agreed_but ps shown behind) s
      stood shown behind unwanted u agree = (fits shown behind unwanted u agree, leaves shown behind unwanted u agree)
