-- How the code keeps forms of subscript pairs. Only contracts of private functions use it.
use Rattle.std.specs.Prelude.{◌≡◌, ◌⊎◌, ℕ, ◌<◌, ℤ, pos, neg_ℤ, false, ◌&&◌, IsTrue}
use Rattle.ped_views.specs.Views.{SubscriptPair}
use Rattle.ped_views.specs.Forms.{Occurrence, Form, ziv, strong_siv, weak_zero_siv, weak_crossing_siv, other_form, form_of, is_strong_in}
use Rattle.ped_verdict.specs.declared.forms.Form.{Form as CodeForm}
use Rattle.ped_verdict.specs.declared.forms.Form.TheVariants.{Ziv, Strong, WeakZero, WeakCrossing, Other}
use Rattle.ped_verdict.specs.declared.forms.Occurrence.{Occurrence as CodeOccurrence}

-- the loop whose index occurs
abbrev pub occurrence_shown : CodeOccurrence → Occurrence
occurrence_shown o = record { place = o.place; at_source = o.at_source; at_sink = o.at_sink }

-- the form
abbrev pub form_shown : CodeForm → Form
form_shown Ziv = ziv
form_shown (Strong o) = strong_siv (occurrence_shown o)
form_shown (WeakZero o) = weak_zero_siv (occurrence_shown o)
form_shown (WeakCrossing o) = weak_crossing_siv (occurrence_shown o)
form_shown Other = other_form

-- one of the two is 0 and the other isn't
abbrev pub HasOneZero : ℤ → ℤ → Type 0
HasOneZero a b = ((a ≡ pos 0) × ¬ (b ≡ pos 0)) ⊎ (¬ (a ≡ pos 0) × (b ≡ pos 0))

-- the loop is one of n, and its coefficients are those of the form
abbrev pub IsSound : ℕ → CodeForm → Type 0
IsSound n Ziv = Unit {0}
IsSound n (Strong o) = (o.place < n) × ¬ (o.at_source ≡ pos 0) × (o.at_source ≡ o.at_sink)
IsSound n (WeakZero o) = (o.place < n) × HasOneZero o.at_source o.at_sink
IsSound n (WeakCrossing o) = (o.place < n) × ¬ (o.at_source ≡ pos 0) × (o.at_source ≡ neg_ℤ o.at_sink)
IsSound n Other = Unit {0}

-- the pair isn't usable, or isn't strong SIV in the loop at place k
abbrev pub IsNotStrong : ℕ → SubscriptPair → Type 0
IsNotStrong k p = p.usable && is_strong_in k (form_of p) ≡ false

-- the pair is usable and strong SIV in the loop at place k, with this coefficient
pub record IsStrongBy (a : ℤ) (k : ℕ) (p : SubscriptPair) : Type 0 where
  pub usable : IsTrue p.usable
  pub at_sink : ℤ
  pub form : form_of p ≡ strong_siv (record { place = k; at_source = a; at_sink = at_sink })
  pub some : ¬ (a ≡ pos 0)
