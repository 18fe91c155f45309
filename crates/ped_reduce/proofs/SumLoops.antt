-- A DO in which sums are kept apart, and the DO of its exits: together they go on where the DO does, and leave what it leaves but in the arrays.
use Rattle.std.proofs.Common.{◌≡◌, ℕ, zero, suc, ◌+◌, ◌≤◌, ℤ, List, [], ◌∷◌, ◌++◌, length, Bool, true, false, inl, inr, refl, sym, ap, subst, ◌∙◌, if◌then◌else◌, arith}
use Rattle.std.specs.Prelude.{◌==◌}
use Rattle.std.proofs.lemmas.Bool.{both_ways}
use Rattle.ped_rules.specs.ped_store.specs.Cells.{Cell, Scalar, same_cell}
use Rattle.ped_rules.specs.ped_store.specs.Stores.{Content, Store, put}
use Rattle.ped_rules.specs.ped_store.specs.Acts.{Touch, Place, ended_turn, Act, store_behind}
use Rattle.ped_rules.specs.ped_laws.specs.Acts.Orders.{IsIn}
use Rattle.ped_rules.specs.ped_laws.proofs.ActLaws.SameCells.{cell_itself, cell_is}
use Rattle.ped_rules.specs.ped_laws.proofs.ActLaws.Lists.{in_parts}
use Rattle.ped_rules.specs.ped_laws.proofs.ActLaws.Stores.{put_same, put_other}
use Rattle.ped_rules.specs.ped_eval.specs.Scopes.{Setting, Frame, Scope, turns_of, cell_of, names_in, place_of}
use Rattle.ped_rules.specs.ped_eval.specs.Statements.{write_touch}
use Rattle.ped_rules.specs.ped_eval.specs.Loops.{Entered, frame, value_in, left_in_variable, exit_touches, exit_when_none}
use Rattle.ped_rules.specs.ped_eval.specs.Runs.{going, Run, does, turns, run_all}
use Rattle.ped_reduce.specs.Lowering.{Partials, exits}
use Rattle.ped_reduce.proofs.SumStores.{part, Adds, adds_same}
use Rattle.ped_reduce.proofs.SumSteps.{StandsAt}
use Rattle.ped_reduce.proofs.SumParts.{going_then}
use Rattle.ped_reduce.proofs.SumTrips.{IsCalm}
use Rattle.ped_reduce.proofs.SumTurns.{Trip, AreTrips, SameTotals, Chain, IsToldIn, AreTold}
use Rattle.ped_reduce.proofs.SumExits.{AllDistinct, IsNoTotal, ExitsGo, exits_go}

-- what is told stays told where the elements stay
pub told_same : (ps : List Partials) (u z : Store) → ((x : List ℕ) (k : ℤ) → z (part x k) ≡ u (part x k)) → (trail : List Trip) → AreTold ps u trail → AreTold ps z trail
told_same ps u z same [] h = tt
told_same ps u z same (t ∷ ts) h = (
  (λ p i. adds_same (t.before (Scalar p.scalar)) (u (part p.high t.value)) (u (part p.low t.value)) (u (part p.flag t.value)) (t.after (Scalar p.scalar)) (z (part p.high t.value)) (z (part p.low t.value)) (z (part p.flag t.value)) (t.after (Scalar p.scalar))
      (same p.high t.value) (same p.low t.value) (same p.flag t.value) refl (h.0 p i)),
  told_same ps u z same ts h.1,
)

-- a write of what is held changes nothing
put_held : (c : Cell) (x : Content) (u : Store) → u c ≡ x → (d : Cell) → put c x u d ≡ u d
put_held c x u h d = go (same_cell c d) refl
  where
    go : (b : Bool) → same_cell c d ≡ b → put c x u d ≡ u d
    go true e = put_same c x u d e ∙ sym h ∙ ap u (cell_is c d e)
    go false e = put_other c x u d e

module _ (ps : List Partials) (distinct : AllDistinct ps) (q : Setting) (v : List ℕ) (told : Cell) (m : ℕ) (scope : Scope) (x : Entered) where
  abbrev at : Place
  at = place_of q m scope

  abbrev body : Frame → Store → Run
  body f = run_all q (exits v ps) (m + 1) (f ∷ scope)

  -- what is asked of the DO of the exits: in each iteration the scalars are read from their own cells; it stores its variable alone, which is none of them; and no PARALLEL DO is round it, nor is it one
  pub record IsOfExits : Type 0 where
    pub stands : (j : ℕ) → 1 ≤ j → j ≤ x.count → StandsAt ps (names_in q (frame x j ∷ scope)) v (value_in x j) told
    pub stores : exit_touches x scope ≡ write_touch (cell_of scope v) (left_in_variable x) 0 ∷ []
    pub other : IsNoTotal ps (cell_of scope v)
    pub calm : (j : ℕ) → IsCalm (turns_of (frame x j ∷ scope))
    pub outer : IsCalm (turns_of scope)

  pub record ExitTurnsGo (left j : ℕ) (t u : Store) : Type 0 where
    pub behind : Store
    pub ending : (turns left j x scope at body u).ending ≡ going behind
    pub totals : SameTotals ps t behind
    pub kept : (c : Cell) → IsNoTotal ps c → behind c ≡ u c
    pub calm : (b : Act) → IsIn b (turns left j x scope at body u).acts → IsCalm b.place.turns

  module _ (of_exits : IsOfExits) where
    -- its variable gets what it holds already
    pub variable_stays : (left : ℕ) (u : Store) → u (cell_of scope v) ≡ left_in_variable x → (c : Cell) → store_behind (exit_when_none left x scope) u c ≡ u c
    variable_stays left u h c = go (left == 0)
      where
        go : (b : Bool) → store_behind (if b then exit_touches x scope else []) u c ≡ u c
        go true = ap (λ (ts : List Touch). store_behind ts u c) of_exits.stores ∙ put_held (cell_of scope v) (left_in_variable x) u h c
        go false = refl

    no_part : (y : List ℕ) (k : ℤ) → IsNoTotal ps (part y k)
    no_part y k p i e = both_ways (same_cell (Scalar p.scalar) (part y k)) refl (ap (same_cell (Scalar p.scalar)) (sym e) ∙ cell_itself (Scalar p.scalar))

    none_left : (j : ℕ) (s t u : Store) → SameTotals ps s t → SameTotals ps s u → ExitTurnsGo 0 j t u
    none_left j s t u chain held = record {
      behind = u;
      ending = refl;
      totals = λ p i. held p i ∙ sym (chain p i);
      kept = λ c h. refl;
      calm = λ b i. absurd i;
    }

    -- one exit, and then those that are left
    module _ (left j : ℕ) (from : 1 ≤ j) (last : j + suc left ≡ x.count + 1) (trip : Trip) (rest : List Trip) (is : trip.value ≡ value_in x j) (s t u : Store) (begins : SameTotals ps s trip.before) (chain : Chain ps trip.after rest t) (held : SameTotals ps s u) (tell : IsToldIn ps u trip) where
      abbrev k : ℤ
      k = value_in x j

      abbrev ts : List Touch
      ts = exit_when_none left x scope

      exit_go : ExitsGo ps q v k told (frame x j ∷ scope) (of_exits.stands j from (omega (arith, last))) ps (m + 1) u (λ p. trip.after (Scalar p.scalar))
      exit_go =
          exits_go ps q v k told (frame x j ∷ scope) (of_exits.stands j from (omega (arith, last))) ps distinct (λ p i. i) (m + 1) u (λ p. trip.before (Scalar p.scalar)) (λ p. trip.after (Scalar p.scalar))
          (λ p i. held p i ∙ sym (begins p i))
          (λ p i. subst (λ (n : ℤ). Adds (trip.before (Scalar p.scalar)) (u (part p.high n)) (u (part p.low n)) (u (part p.flag n)) (trip.after (Scalar p.scalar))) is (tell p i))

      abbrev u1 : Store
      u1 = exit_go.behind

      abbrev u2 : Store
      u2 = store_behind ts u1

      abbrev next : Store → Run
      next = does (ended_turn left) at ts (turns left (j + 1) x scope at body)

      module _ (variable : u (cell_of scope v) ≡ left_in_variable x) where
        held1 : u1 (cell_of scope v) ≡ left_in_variable x
        held1 = exit_go.kept (cell_of scope v) of_exits.other ∙ variable

        same2 : (c : Cell) → u2 c ≡ u1 c
        same2 c = variable_stays left u1 held1 c

        held2 : u2 (cell_of scope v) ≡ left_in_variable x
        held2 = same2 (cell_of scope v) ∙ held1

        totals2 : SameTotals ps trip.after u2
        totals2 p i = same2 (Scalar p.scalar) ∙ exit_go.totals p i

        parts2 : (y : List ℕ) (n : ℤ) → u2 (part y n) ≡ u (part y n)
        parts2 y n = same2 (part y n) ∙ exit_go.kept (part y n) (no_part y n)

        one_more : ExitTurnsGo left (j + 1) t u2 → ExitTurnsGo (suc left) j t u
        one_more more =
            let whole : turns (suc left) j x scope at body u ≡ record { acts = (body (frame x j) u).acts ++ (next u1).acts; ending = (next u1).ending } = going_then (body (frame x j) u) u1 next exit_go.ending in
            record {
              behind = more.behind;
              ending = ap (λ (r : Run). r.ending) whole ∙ more.ending;
              totals = more.totals;
              kept = λ c h. more.kept c h ∙ same2 c ∙ exit_go.kept c h;
              calm = λ b i. elim (in_parts b (body (frame x j) u).acts (next u1).acts (subst (IsIn b) (ap (λ (r : Run). r.acts) whole) i)) [
                | inl l ↦ subst IsCalm (sym (exit_go.places b l)) (of_exits.calm j)
                | inr l ↦ elim l [ inl e ↦ subst (λ (a : Act). IsCalm a.place.turns) (sym e) of_exits.outer | inr n ↦ more.calm b n ]
              ];
            }

    pub exit_turns_go : (left j : ℕ) → 1 ≤ j → j + left ≡ x.count + 1 → (trail : List Trip) → length trail ≡ left → AreTrips x j trail → (s t u : Store) → Chain ps s trail t → SameTotals ps s u → AreTold ps u trail → u (cell_of scope v) ≡ left_in_variable x → ExitTurnsGo left j t u
    exit_turns_go zero j from last [] many trips s t u chain held tell variable = none_left j s t u chain held
    exit_turns_go zero j from last (trip ∷ rest) many trips s t u chain held tell variable = absurd (omega (arith, many))
    exit_turns_go (suc left) j from last [] many trips s t u chain held tell variable = absurd (omega (arith, many))
    exit_turns_go (suc left) j from last (trip ∷ rest) many trips s t u chain held tell variable =
        one_more left j from last trip rest trips.0 s t u chain.0 chain.1 held tell.0 variable
        (exit_turns_go left (j + 1) (omega (arith, from)) (omega (arith, last)) rest (omega (arith, many)) trips.1 trip.after t
        (store_behind (exit_when_none left x scope) (exit_go left j from last trip rest trips.0 s t u chain.0 chain.1 held tell.0).behind) chain.1
        (totals2 left j from last trip rest trips.0 s t u chain.0 chain.1 held tell.0 variable)
        (told_same ps u (store_behind (exit_when_none left x scope) (exit_go left j from last trip rest trips.0 s t u chain.0 chain.1 held tell.0).behind) (parts2 left j from last trip rest trips.0 s t u chain.0 chain.1 held tell.0 variable) rest tell.1)
        (held2 left j from last trip rest trips.0 s t u chain.0 chain.1 held tell.0 variable))
