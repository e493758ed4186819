use Rattle.std.proofs.Common.{◌≡◌, ℕ, ◌+◌, ◌-◌, ◌*◌, ◌^◌, ◌<◌, ◌∙◌, length, take, drop, ap, arith}
use Rattle.std.proofs.lemmas.List.Elements.{All-from_get_or}
use Rattle.xr_headers.specs.Padded.{numbers_in}
use Rattle.xr_headers.specs.ReadBackLaws.{numbers_read}
use Rattle.xr_headers.proofs.codec.read_words.Goals as goal

pub returns-clause-words : goal.returns-clause-words
returns-clause-words c = All-from_get_or (λ (number : ℕ). number < 2 ^ 32) c.read_u32_into.new.dst 0 (λ i within. let fits = c.type_inv.numbers i in omega arith)

pub returns-clause-held : goal.returns-clause-held
returns-clause-held c =
    let at = c.args.at in
    let size = 4 * length c.args.numbers.now in
    let rest = drop at c.args.bytes.now in
    let count : at + size - at ≡ size = omega arith in
    numbers_read (length c.args.numbers.now) (take (at + size - at) rest) c.read_u32_into.new.dst (omega arith) c.read_u32_into.ensures
    ∙ ap (λ (n : ℕ). numbers_in (length c.args.numbers.now) (take n rest)) count
