-- Where the tests of a view are exact in every position (Allen and Kennedy, section 3.3).
use Rattle.std.specs.Prelude.{Bool, true, false, ◌&&◌}
use Rattle.std.specs.List.{list_all}
use Rattle.ped_views.specs.Views.{SubscriptPair, View}
use Rattle.ped_views.specs.Forms.{Form, ziv, strong_siv, weak_zero_siv, weak_crossing_siv, other_form, form_of}

-- ZIV or strong SIV (Allen and Kennedy, sections 3.3.1, 3.3.2)
abbrev pub is_exact_form : Form → Bool
is_exact_form ziv = true
is_exact_form (strong_siv o) = true
is_exact_form (weak_zero_siv o) = false
is_exact_form (weak_crossing_siv o) = false
is_exact_form other_form = false

-- usable, and ZIV or strong SIV (Allen and Kennedy, sections 3.3.1, 3.3.2)
abbrev pub is_exact_position : SubscriptPair → Bool
is_exact_position p = p.usable && is_exact_form (form_of p)

-- every position is usable and ZIV or strong SIV (Allen and Kennedy, section 3.3)
abbrev pub is_exact : View → Bool
is_exact v = list_all is_exact_position v.positions
