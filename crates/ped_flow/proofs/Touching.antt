-- Scalars to which nothing happens.
use Rattle.std.proofs.Common.{◌≡◌, ℕ, List, length, Bool, true, false, not, Option, None, Some, is_some, refl, sym, ap, ◌∙◌}
use Rattle.ped_bits.specs.Places.{union}
use Rattle.ped_flow.specs.Summaries.{passing}
use Rattle.ped_flow.specs.RowPlaces.{bit}
use Rattle.ped_flow.specs.Rows.{Holds}
use Rattle.ped_flow.specs.declared.summaries.Summary.{Summary}
use Rattle.ped_flow.specs.declared.row_summaries.RowSummary.{RowSummary}
use Rattle.ped_flow.proofs.Truths.{untrue, or_none}
use Rattle.ped_flow.proofs.RowSummaries.{or_at, union_wide}

nothing_there : (a : Option ℕ) → is_some a ≡ false → a ≡ None
nothing_there None h = refl
nothing_there (Some n) h = untrue (sym h)

not_false : (a : Bool) → not a ≡ false → a ≡ true
not_false true h = refl
not_false false h = untrue (sym h)

module _ (r : RowSummary) (t u v w z : List Bool) (e : t ≡ r.reads) (f : u ≡ union t r.overwritten) (g : v ≡ union u r.ends) (h : w ≡ union v r.blocked) (k : z ≡ union w r.loses) where
  pub wide_reads : length t ≡ r.width
  wide_reads = ap length e ∙ r.even.reads

  pub wide_two : length u ≡ r.width
  wide_two = union_wide t r.overwritten u r.width f wide_reads r.even.overwritten

  pub wide_three : length v ≡ r.width
  wide_three = union_wide u r.ends v r.width g wide_two r.even.ends

  pub wide_four : length w ≡ r.width
  wide_four = union_wide v r.blocked w r.width h wide_three r.even.blocked

  pub wide_all : length z ≡ r.width
  wide_all = union_wide w r.loses z r.width k wide_four r.even.loses

  -- where none of the rows has a place nothing happens there
  pub untouched : (i : ℕ) (m : Summary) → Holds r i m → bit z i ≡ false → m ≡ passing
  untouched i m s n =
      let five = or_none (bit w i) (bit r.loses i) (sym (or_at w r.loses z i (wide_four ∙ sym r.even.loses) k) ∙ n) in
      let four = or_none (bit v i) (bit r.blocked i) (sym (or_at v r.blocked w i (wide_three ∙ sym r.even.blocked) h) ∙ five.0) in
      let three = or_none (bit u i) (bit r.ends i) (sym (or_at u r.ends v i (wide_two ∙ sym r.even.ends) g) ∙ four.0) in
      let two = or_none (bit t i) (bit r.overwritten i) (sym (or_at t r.overwritten u i (wide_reads ∙ sym r.even.overwritten) f) ∙ three.0) in
      let a = nothing_there m.first (sym s.reads ∙ sym (ap (λ (x : List Bool). bit x i) e) ∙ two.0) in
      let b = not_false m.keeps (sym s.overwritten ∙ two.1) in
      let c : m.ends ≡ false = sym s.ends ∙ three.1 in
      let d = not_false m.passes (sym s.blocked ∙ four.1) in
      let l : m.loses ≡ false = sym s.loses ∙ five.1 in
      λ j. record { first = a j; keeps = b j; ends = c j; passes = d j; loses = l j }
