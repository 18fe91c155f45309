-- Whether a subscript pair excludes a vector is decided, form by form.
use Rattle.std.proofs.Common.{List}
use Rattle.ped_rules.specs.ped_views.specs.declared.directions.Direction.{Direction}
use Rattle.ped_rules.specs.ped_views.specs.Views.{SubscriptPair, View}
use Rattle.ped_rules.specs.ped_views.specs.Forms.{Form, ziv, strong_siv, weak_zero_siv, weak_crossing_siv, other_form, form_of}
use Rattle.ped_rules.specs.ped_views.specs.Excluded.{group_of, loop_at, direction_at, FormExcludes, Excludes}
use Rattle.ped_splits.proofs.Existence.Sentences.{Decided}
use Rattle.ped_splits.proofs.Existence.Deciding.{decided_not, decided_both, decided_either, true_decided, equal_decided}
use Rattle.ped_splits.proofs.Existence.Meeting.{never_meets_decided, never_meet_together_decided}
use Rattle.ped_splits.proofs.Existence.Solutions.{no_solution_decided}
use Rattle.ped_splits.proofs.Existence.Differences.{beyond_extremes_decided}

form_decided : (f : Form) (v : View) (p : SubscriptPair) (vector : List Direction) → Decided (FormExcludes f v p vector)
form_decided ziv v p vector = decided_not (equal_decided p.source.constant p.sink.constant)
form_decided (strong_siv o) v p vector = never_meet_together_decided (group_of o.place v.positions) (loop_at v o.place) (direction_at vector o.place)
form_decided (weak_zero_siv o) v p vector = never_meets_decided o.at_source o.at_sink p.source.constant p.sink.constant (loop_at v o.place) (direction_at vector o.place)
form_decided (weak_crossing_siv o) v p vector = never_meets_decided o.at_source o.at_sink p.source.constant p.sink.constant (loop_at v o.place) (direction_at vector o.place)
form_decided other_form v p vector = decided_either (no_solution_decided p vector) (beyond_extremes_decided v p vector)

pub excludes_decided : (v : View) (p : SubscriptPair) (vector : List Direction) → Decided (Excludes v p vector)
excludes_decided v p vector = decided_both (true_decided p.usable) (form_decided (form_of p) v p vector)
