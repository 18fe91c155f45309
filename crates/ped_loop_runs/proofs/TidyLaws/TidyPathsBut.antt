-- Summaries of paths, one of which leaves no more of a scalar than another or a third: where it leaves the scalar as it is, so does one of these.
use Rattle.std.proofs.Common.{◌≡◌, ℕ, Bool, true, false, ◌&&◌, ◌||◌, List, None, inl, inr, refl, subst}
use Rattle.ped_bodies.specs.ped_flow.specs.ped_tree.specs.Tree.{Head, StmtTrees}
use Rattle.ped_bodies.specs.ped_flow.specs.Events.{copied, start_events, exit_events}
use Rattle.ped_bodies.specs.ped_flow.specs.Summaries.{unreached, summary_in_turn, summary_either, summary_events, summary_loop}
use Rattle.ped_bodies.specs.ped_flow.proofs.SumLaws.{either-in_turn}
use Rattle.ped_bodies.specs.ped_flow.proofs.Truths.{untrue, or_split, and_split}
use Rattle.ped_loop_runs.proofs.TidyLaws.TidyPathsSums.{Summary, IsNoMore, ClearsAll, no_more_by, unreached_more, in_turn_more, events_pass, cleared_more, copied_more, loop_more}

-- the paths of the first leave the scalar as it is only where those of the second or of the third do
abbrev pub IsNoMoreBut : Summary → Summary → Summary → Type 0
IsNoMoreBut a b c = IsNoMore a (summary_either b c)

or_first : (a b : Bool) → a ≡ true → (a || b) ≡ true
or_first true b e = refl
or_first false b e = untrue e

or_second : (a b : Bool) → b ≡ true → (a || b) ≡ true
or_second true b e = refl
or_second false b e = e

pub either_first : (a b : Summary) → IsNoMore a (summary_either a b)
either_first a b = record { keeps = or_first a.keeps b.keeps; ends = or_first a.ends b.ends }

pub either_second : (a b : Summary) → IsNoMore b (summary_either a b)
either_second a b = record { keeps = or_second a.keeps b.keeps; ends = or_second a.ends b.ends }

pub no_but : (a b c : Summary) → IsNoMore a b → IsNoMoreBut a b c
no_but a b c h = no_more_by a b (summary_either b c) h (either_first b c)

pub passed_but : (a b c : Summary) → IsNoMore a c → IsNoMoreBut a b c
passed_but a b c h = no_more_by a c (summary_either b c) h (either_second b c)

-- either of two that leave no more than a third leaves no more
pub both_more : (a b c : Summary) → IsNoMore a c → IsNoMore b c → IsNoMore (summary_either a b) c
both_more a b c h k = record {
  keeps = λ e. elim (or_split a.keeps b.keeps e) [ inl f ↦ h.keeps f | inr f ↦ k.keeps f ];
  ends = λ e. elim (or_split a.ends b.ends e) [ inl f ↦ h.ends f | inr f ↦ k.ends f ];
}

pub but_more : (a b c d : Summary) → IsNoMoreBut a b c → IsNoMore c d → IsNoMoreBut a b d
but_more a b c d h k = no_more_by a (summary_either b c) (summary_either b d) h (both_more b c (summary_either b d) (either_first b d) (no_more_by c d (summary_either b d) k (either_second b d)))

pub but_by : (a b c d : Summary) → IsNoMoreBut a b c → IsNoMore b d → IsNoMoreBut a d c
but_by a b c d h k = no_more_by a (summary_either b c) (summary_either d c) h (both_more b c (summary_either d c) (no_more_by b d (summary_either d c) k (either_first d c)) (either_second d c))

-- either part
pub either_but : (a b c d e : Summary) → IsNoMoreBut a c e → IsNoMoreBut b d e → IsNoMoreBut (summary_either a b) (summary_either c d) e
either_but a b c d e h k =
    both_more a b (summary_either (summary_either c d) e)
    (but_by a c e (summary_either c d) h (either_first c d)) (but_by b d e (summary_either c d) k (either_second c d))

-- one part and then another that has more to it
pub in_turn_but : (a b c d e : Summary) → IsNoMore a c → IsNoMoreBut b d e → IsNoMoreBut (summary_in_turn a b) (summary_in_turn c d) e
in_turn_but a b c d e h k = record {
  keeps = λ f. let p = and_split a.keeps b.keeps f in kept c.keeps d.keeps e.keeps (h.keeps p.0) (k.keeps p.1);
  ends = λ f. elim (or_split a.ends (a.keeps && b.ends) f) [
    | inl p ↦ or_first (c.ends || (c.keeps && d.ends)) e.ends (or_first c.ends (c.keeps && d.ends) (h.ends p))
    | inr p ↦ (let q = and_split a.keeps b.ends p in last c.ends (c.keeps && d.ends) e.ends (kept c.keeps d.ends e.ends (h.keeps q.0) (k.ends q.1)))
  ];
}
  where
    kept : (p q r : Bool) → p ≡ true → (q || r) ≡ true → ((p && q) || r) ≡ true
    kept true q r f g = g
    kept false q r f g = untrue f

    last : (p q r : Bool) → (q || r) ≡ true → ((p || q) || r) ≡ true
    last true q r f = refl
    last false q r f = f

-- one part that has more to it, and then another
pub but_in_turn : (a b c d e : Summary) → IsNoMoreBut a c e → IsNoMore b d → IsNoMoreBut (summary_in_turn a b) (summary_in_turn c d) (summary_in_turn e d)
but_in_turn a b c d e h k = subst (IsNoMore (summary_in_turn a b)) (either-in_turn c e d) (in_turn_more a b (summary_either c e) d h k)

-- of paths those that end
abbrev pub ending : Summary → Summary
ending m = record { first = None; keeps = false; ends = m.ends; passes = false; loses = false }

-- what ends goes no further
pub ending_more : (m rest : Summary) → IsNoMore (ending m) (summary_in_turn m rest)
ending_more m rest = record { keeps = λ e. untrue e; ends = or_first m.ends (m.keeps && rest.ends) }

-- the trips of a DO with more to its body, which may be none: only what ends in the body has more to it
pub loop_but : (cs : List (List ℕ)) (w : List ℕ) (h g : Head) (body other : StmtTrees) (n m : ℕ) (a b c : Summary) → ClearsAll cs w h g body other → IsNoMoreBut a b c → IsNoMoreBut (summary_loop w n h body a) (summary_loop w m g other b) (ending c)
loop_but cs w h g body other n m a b c clears k = record {
  keeps = λ e. or_first (summary_loop w m g other b).keeps false ((loop_more cs w h g body other n m unreached b clears (unreached_more b)).keeps e);
  ends = λ e. elim (or_split (summary_in_turn start a).ends exit.ends e) [
    | inl f ↦ amid (summary_in_turn other_start b).ends other_exit.ends c.ends (further.ends f)
    | inr f ↦ untrue ((events_pass w (exit_events n h body)).ends f)
  ];
}
  where
    start : Summary
    start = summary_events w (start_events n h body)

    other_start : Summary
    other_start = summary_events w (start_events m g other)

    exit : Summary
    exit = summary_events w (exit_events n h body)

    other_exit : Summary
    other_exit = summary_events w (exit_events m g other)

    further : IsNoMoreBut (summary_in_turn start a) (summary_in_turn other_start b) c
    further = in_turn_but start a other_start b c (cleared_more cs w n m (copied h body) (copied g other) (copied_more cs w h g body other clears)) k

    amid : (p q r : Bool) → (p || r) ≡ true → ((p || q) || r) ≡ true
    amid true q r f = refl
    amid false q r f = or_second q r f

-- a part that has more to it, and then trips of which what ends has more to it
pub but_trips : (a b c d e : Summary) → IsNoMoreBut a c e → IsNoMoreBut b d (ending e) → IsNoMoreBut (summary_in_turn a b) (summary_in_turn c d) (summary_in_turn e d)
but_trips a b c d e h k = record {
  keeps = λ f. let p = and_split a.keeps b.keeps f in kept c.keeps d.keeps e.keeps (h.keeps p.0) (k.keeps p.1);
  ends = λ f. elim (or_split a.ends (a.keeps && b.ends) f) [
    | inl p ↦ first c.ends (c.keeps && d.ends) e.ends (e.keeps && d.ends) (h.ends p)
    | inr p ↦ (let q = and_split a.keeps b.ends p in trips c.ends c.keeps d.ends e.ends e.keeps (h.keeps q.0) (k.ends q.1))
  ];
}
  where
    kept : (p q r : Bool) → (p || r) ≡ true → (q || false) ≡ true → ((p && q) || (r && q)) ≡ true
    kept true true r f g = refl
    kept false true true f g = refl
    kept false true false f g = untrue f
    kept p false r f g = untrue g

    first : (p q r s : Bool) → (p || r) ≡ true → ((p || q) || (r || s)) ≡ true
    first true q r s f = refl
    first false q true s f = or_second q true refl
    first false q false s f = untrue f

    trips : (p q r s u : Bool) → (q || u) ≡ true → (r || s) ≡ true → ((p || (q && r)) || (s || (u && r))) ≡ true
    trips true q r s u f g = refl
    trips false true true s u f g = refl
    trips false true false true u f g = refl
    trips false true false false u f g = untrue g
    trips false false true true true f g = refl
    trips false false true false true f g = refl
    trips false false false true true f g = refl
    trips false false false false true f g = untrue g
    trips false false r s false f g = untrue f
