-- What reading refuses is what the text is refused for.
use Rattle.std.proofs.Common.{◌≡◌, ℕ, List, sym, subst}
use Rattle.std.specs.Prelude.{Result, Ok, Err, IfErr, IsErrAnd}
use Rattle.ped_parse.specs.Refusals as reading
use Rattle.ped_parse.specs.declared.refusals.ReadRefusal.{ReadRefusal}
use Rattle.ped_parse.specs.declared.refusals.ReadRefusal.TheVariants as reads
use Rattle.ped_valid.specs.declared.refusals.OpenRefusal.{OpenRefusal}
use Rattle.ped_valid.specs.Validity.{in_reading}
use Rattle.ped_valid.specs.Refusals.{IsRefusalOf, of_reading}

in_reading_at : (text : List ℕ) (e : ReadRefusal) → reading.IsRefusalOf text e → IsRefusalOf text (of_reading e)
in_reading_at text reads.NoMemory h = tt
in_reading_at text (reads.At r) h = in_reading h

pub refused_in_reading : {A : Type 0} (text : List ℕ) (e : ReadRefusal) (r : Result A OpenRefusal) → reading.IsRefusalOf text e → IsErrAnd r (λ o. o ≡ of_reading e) → IfErr r (λ o. IsRefusalOf text o)
refused_in_reading text e (Err o) h is = subst (IsRefusalOf text) (sym is) (in_reading_at text e h)
refused_in_reading text e (Ok p) h is = absurd is
