-- The number of `generate`, as it is read.
use Rattle.std.proofs.Common.{◌≡◌, ℕ, ◌≤◌, List, [], codes, Option, Some, Result, sym, ap, unwrap_or, ◌∙◌, arith}
use Rattle.std.specs.Prelude.{pos}
use Rattle.std.specs.Str.Parse.{ParsesUnsigned, ExplainsUnsignedError, HasUnsignedDigitsIfOk, digits_value, without_leading_plus}
use Rattle.std.specs.declared.num.ParseIntError.{ParseIntError}
use Rattle.clap.specs.Lexer.{without_minus}
use Rattle.clap.specs.Matches.{found_of, one_text, ReadsOne}
use Rattle.clap.specs.Values.{IsSignedIn}
use Rattle.clap.specs.Walk.{Text, one_of}
use Rattle.clap.specs.Words.{matches_of}
use Rattle.clap.specs.declared.parser.matches.ArgMatches.{ArgMatches}
use Rattle.clap.proofs.CallerReads.{signed_reads}
use Rattle.clap.proofs.WalkLemmas.{one_text-rows}
use Rattle.ped_words.specs.Modes.{generate_app}
use Rattle.ped_words.specs.Requests.{generate, number_of, generate_request}
use Rattle.ped_words.proofs.Asked.{IsFound, taken}

-- how a number of 32 bits is read of a text
abbrev pub Reads : Text → Result ℕ ParseIntError → Type 0
Reads text r = ParsesUnsigned 32 10 text r × ExplainsUnsignedError 10 text r × HasUnsignedDigitsIfOk text r

pub same_number : (a b : ℕ) → Some a ≡ Some b → a ≡ b
same_number a b e = cc

-- a text that writes a number from 1 to 300 is read as one
pub size_read : (t : Text) (r : Option ℕ) → ReadsOne Reads (without_minus t) r → IsSignedIn (pos 1) (pos 300) t → (n : ℕ) × (r ≡ Some n) × (1 ≤ n) × (n ≤ 300)
size_read t r h k = signed_reads ParseIntError Reads 32 1 300 t r h (λ u x g. g.0) (omega arith) k

-- and it is the number that is asked for
pub generate_is : (words : List Text) (m : ArgMatches) (t : Text) (n : ℕ) → IsFound generate_app words m → one_text (found_of m) (codes "number") ≡ Some t → ReadsOne Reads t (Some n) → generate_request words ≡ Some (generate n)
generate_is words m t n h e r =
    let text : one_of (codes "number") (matches_of generate_app words) ≡ Some t = sym (sym e ∙ one_text-rows (found_of m) (codes "number") ∙ ap (one_of (codes "number")) h.rows) in
    let number : number_of generate_app words (codes "number") ≡ n =
    ap (λ (o : Option Text). digits_value 10 (without_leading_plus (unwrap_or o []))) text ∙ sym r.0.1 in
    taken generate_app words m (generate (number_of generate_app words (codes "number"))) h ∙ ap (λ (n : ℕ). Some (generate n)) number
