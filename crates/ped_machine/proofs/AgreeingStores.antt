-- Stores agree after each step on what is left to be named, and go on to do so where what is spent is forgotten.
use Rattle.std.proofs.Common.{◌≡◌, ◌⊎◌, inl, inr, ℕ, false, List, [], ◌∷◌, ap, ◌∙◌, if◌then◌else◌}
use Rattle.ped_store.specs.Cells.{Cell, Scalar, Element, Private, In, Out, Iteration, same_cell}
use Rattle.ped_store.specs.Stores.{Content, Store}
use Rattle.ped_store.specs.Acts.{Touch, Manner, reads, writes, is_told, Act, touched, store_behind}
use Rattle.ped_interleavings.specs.ped_eval.specs.Scopes.{Setting}
use Rattle.ped_interleavings.specs.ped_eval.specs.Agreement.{is_copy}
use Rattle.ped_interleavings.specs.Lefts.{Left, finished}
use Rattle.ped_interleavings.specs.Steps.{went, step}
use Rattle.ped_machine.specs.Naming.{CanName, AgreeOn, IsSpent, IsSpentCell, IsApart, IsForgotten}
use Rattle.ped_machine.proofs.SameSteps.{same_next}
use Rattle.ped_machine.proofs.FewerNames.{fewer}
use Rattle.ped_machine.proofs.SpentCopies.{spent}

touched_same : (m : Manner) (d : Cell) (v : Content) (c : Cell) (u s : Store) → u c ≡ s c → touched m d v u c ≡ touched m d v s c
touched_same reads d v c u s h = h
touched_same writes d v c u s h = ap (λ (w : Content). if same_cell d c then v else w) h
touched_same is_told d v c u s h = h

-- equal writes into both leave what was the same
touches_same : (ts : List Touch) (c : Cell) (u s : Store) → u c ≡ s c → store_behind ts u c ≡ store_behind ts s c
touches_same [] c u s h = h
touches_same (t ∷ ts) c u s h = touches_same ts c (touched t.manner t.cell t.content u) (touched t.manner t.cell t.content s) (touched_same t.manner t.cell t.content c u s h)

pub same_step : (p : Setting) (l : Left) (c : ℕ) (u s : Store) → AgreeOn l u s → step p l c u ≡ step p l c s
same_step p l c u s g = same_next p u s g.outside l c g.copies

pub agree_behind : (p : Setting) → ((m : ℕ) → p.number m ≡ m) → (l : Left) (c : ℕ) (u s : Store) (a : Act) (r : Left) → step p l c s ≡ went a r → AgreeOn l u s → AgreeOn r (store_behind a.touches u) (store_behind a.touches s)
agree_behind p num l c u s a r q g = record {
  outside = λ d k. touches_same a.touches d u s (g.outside d k);
  copies = λ x path f. touches_same a.touches (Private x path) u s (g.copies x path (fewer p num l c s a r q path f));
}

pub agree_halted : (l : Left) (ts : List Touch) (u s : Store) → AgreeOn l u s → AgreeOn finished (store_behind ts u) (store_behind ts s)
agree_halted l ts u s g = record { outside = λ d k. touches_same ts d u s (g.outside d k); copies = λ x path f. absurd f }

-- what is spent may be forgotten
pub agree_forgotten : (l : Left) (u w s : Store) → IsApart l → IsForgotten l u w → AgreeOn l u s → AgreeOn l w s
agree_forgotten l u w s a h g = record {
  outside = λ d k. not_spent d k (h d) ∙ g.outside d k;
  copies = λ x path f. not_named x path f (h (Private x path)) ∙ g.copies x path f;
}
  where
    not_spent : (d : Cell) → is_copy d ≡ false → (w d ≡ u d) ⊎ IsSpentCell l d → w d ≡ u d
    not_spent d k (inl e) = e
    not_spent (Private x path) k (inr h) = absurd cc
    not_spent (Scalar x) k (inr h) = absurd h
    not_spent (Element x js) k (inr h) = absurd h
    not_spent In k (inr h) = absurd h
    not_spent Out k (inr h) = absurd h

    not_named : (x : List ℕ) (path : List Iteration) → CanName l path → (w (Private x path) ≡ u (Private x path)) ⊎ IsSpent l path → w (Private x path) ≡ u (Private x path)
    not_named x path f (inl e) = e
    not_named x path f (inr k) = absurd (spent l path a k f)
