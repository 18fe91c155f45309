use Rattle.std.proofs.Common.{◌≡◌, ℕ, List, length, bit_or, sym, ap, ◌∙◌, subst, arith}
use Rattle.std.proofs.lemmas.List.{with_items_is}
use Rattle.ped_bits.specs.Words.{word, places_of, IsKept}
use Rattle.ped_bits.proofs.Bits.{lengths, kept_either, either_is}
use Rattle.ped_bits.proofs.rows.Row.or_into.Goals as goal

pub or_words-requires : goal.or_words-requires
or_words-requires c =
    let l = lengths c.target.inside.width c.self.inside.width c.target.inside.words.items c.target.inside.words.items c.self.inside.words.items c.args.target.now c.args.self.now c.target.invariant c.self.invariant c.target.view_is c.self.view_is c.requires in
    ap length c.deref.ensures.value ∙ l ∙ sym (ap length c.deref_mut.ensures.value)

pub invariant_of-target : goal.invariant_of-target
invariant_of-target c =
    let us = c.or_words.new.target in
    let whole : length us ≡ c.target.inside.words.len = omega (arith, c.or_words.auto.target, c.deref_mut.ensures.len) in
    let as_long : length us ≡ length c.target.inside.words.items = omega (arith, c.target.inside.words.ok) in
    subst (λ (ws : List ℕ). IsKept c.target.inside.width ws) (sym (with_items_is c.target.inside.words us whole))
    (kept_either c.target.inside.width c.self.inside.width us c.target.inside.words.items c.self.inside.words.items c.args.target.now c.args.self.now c.target.invariant c.self.invariant c.target.view_is c.self.view_is c.requires as_long (λ j. c.or_words.ensures j ∙ (λ i. bit_or (word (c.deref_mut.ensures.value i) j) (word (c.deref.ensures.value i) j))))

pub returns : goal.returns
returns c =
    let us = c.or_words.new.target in
    let whole : length us ≡ c.target.inside.words.len = omega (arith, c.or_words.auto.target, c.deref_mut.ensures.len) in
    ap (λ (ws : List ℕ). places_of c.target.inside.width ws) (with_items_is c.target.inside.words us whole)
    ∙ either_is c.target.inside.width c.self.inside.width us c.target.inside.words.items c.self.inside.words.items c.args.target.now c.args.self.now c.target.invariant c.self.invariant c.target.view_is c.self.view_is c.requires (λ j. c.or_words.ensures j ∙ (λ i. bit_or (word (c.deref_mut.ensures.value i) j) (word (c.deref.ensures.value i) j)))
