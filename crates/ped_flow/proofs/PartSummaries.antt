-- Parts that are put together.
use Rattle.std.proofs.Common.{◌≡◌, ℕ, List, ◌++◌, length, ◌||◌, Option, Some, is_some, sym, ap, subst, ◌∙◌}
use Rattle.ped_base.specs.Lists.{is_among}
use Rattle.ped_bits.specs.Places.{union}
use Rattle.ped_tree.proofs.NameLaws.Collected.{among_append}
use Rattle.ped_flow.specs.Summaries.{least_of, summary_in_turn, summary_either}
use Rattle.ped_flow.specs.RowPlaces.{place_of, bit}
use Rattle.ped_flow.specs.Rows.{Holds}
use Rattle.ped_flow.specs.Parts.{IsPart}
use Rattle.ped_flow.specs.declared.summaries.Summary.{Summary}
use Rattle.ped_flow.specs.declared.parts.Part.{Part}
use Rattle.ped_flow.proofs.SumLaws.{least-assoc}
use Rattle.ped_flow.proofs.RowSummaries.{or_at, reads_or}

module _ (names : List (List ℕ)) (p q r : Part) (o k : List ℕ → Option ℕ) (u v : List (List ℕ)) (f g : List ℕ → Summary) (h : IsPart names p f o u) (j : IsPart names q g k v) where
  pub loose_both : length p.loose ≡ length q.loose → r.loose ≡ union p.loose q.loose → (x : List ℕ) (i : ℕ) → place_of names x ≡ Some i → bit r.loose i ≡ is_some (least_of (o x) (k x))
  loose_both w e x i at = or_at p.loose q.loose r.loose i w e ∙ reads_or (bit p.loose i) (bit q.loose i) (o x) (k x) (h.loose x i at) (j.loose x i at)

  pub indices_both : length p.indices ≡ length q.indices → r.indices ≡ union p.indices q.indices → (x : List ℕ) (i : ℕ) → place_of names x ≡ Some i → bit r.indices i ≡ is_among x (u ++ v)
  indices_both w e x i at = or_at p.indices q.indices r.indices i w e ∙ (λ z. h.indices x i at z || j.indices x i at z) ∙ sym (among_append x u v)

  pub then_part : length p.loose ≡ length q.loose → r.loose ≡ union p.loose q.loose → length p.indices ≡ length q.indices → r.indices ≡ union p.indices q.indices → r.summaries.width ≡ p.summaries.width
      → ((i : ℕ) (a b : Summary) → Holds p.summaries i a → Holds q.summaries i b → Holds r.summaries i (summary_in_turn a b)) → IsPart names r (λ x. summary_in_turn (f x) (g x)) (λ x. least_of (o x) (k x)) (u ++ v)
  then_part lw le iw ie we s = record { width = we ∙ h.width; summaries = λ x i at. s i (f x) (g x) (h.summaries x i at) (j.summaries x i at); loose = loose_both lw le; indices = indices_both iw ie }

  pub or_part : length p.loose ≡ length q.loose → r.loose ≡ union p.loose q.loose → length p.indices ≡ length q.indices → r.indices ≡ union p.indices q.indices → r.summaries.width ≡ p.summaries.width
      → ((i : ℕ) (a b : Summary) → Holds p.summaries i a → Holds q.summaries i b → Holds r.summaries i (summary_either a b)) → IsPart names r (λ x. summary_either (f x) (g x)) (λ x. least_of (o x) (k x)) (u ++ v)
  or_part lw le iw ie we s = record { width = we ∙ h.width; summaries = λ x i at. s i (f x) (g x) (h.summaries x i at) (j.summaries x i at); loose = loose_both lw le; indices = indices_both iw ie }

-- a part of the same sums
pub same_part : (names : List (List ℕ)) (p : Part) (f g : List ℕ → Summary) (o k : List ℕ → Option ℕ) (u v : List (List ℕ)) → ((x : List ℕ) → f x ≡ g x) → ((x : List ℕ) → o x ≡ k x) → u ≡ v → IsPart names p f o u → IsPart names p g k v
same_part names p f g o k u v e l w h = record {
  width = h.width;
  summaries = λ x i at. subst (λ (m : Summary). Holds p.summaries i m) (e x) (h.summaries x i at);
  loose = λ x i at. h.loose x i at ∙ ap is_some (l x);
  indices = λ x i at. h.indices x i at ∙ ap (is_among x) w;
}

-- one more item of a list: what the rest reads loosely is what the item does and what the others do
pub next_least : (before after whole item rest others : Option ℕ) → least_of before rest ≡ whole → rest ≡ least_of item others → after ≡ least_of before item → least_of after others ≡ whole
next_least before after whole item rest others inv parts e = ap (λ (z : Option ℕ). least_of z others) e ∙ least-assoc before item others ∙ ap (least_of before) (sym parts) ∙ inv
