-- Where the premise on torn records holds by itself.
use Rattle.std.proofs.Common.{◌≡◌, ◌⊎◌, ◌∙◌, ℕ, ◌+◌, ◌≤◌, List, [], ◌∷◌, ◌++◌, length, take, drop, sym, ap, subst, inl, inr, arith}
use Rattle.std.specs.Prelude.{Contains}
use Rattle.std.proofs.lemmas.List.{append_assoc, drop-drop, length-drop, length-take, length-take-le, take-append-drop}
use Rattle.std.proofs.lemmas.List.Elements.{Contains-push_cases}
use Rattle.xr_base.specs.Image.{overlaid, part}
use Rattle.xr_base.specs.ImageLaws.{length-overlaid, part-overlaid}
use Rattle.xr_disk.specs.Crash.{Write}
use Rattle.xr_commit.specs.LogRecords.{log_of}
use Rattle.xr_scan.specs.FalseRecords.{HasNoFalseRecord, own_sectors}
use Rattle.xr_scan.specs.FalseRecordLaws.{DoneIsSound, OffLogIsSound, RestIsSound, UndoneIsSound, write_over}
use Rattle.xr_commit.specs.WholeRecordLaws.{ends_within}

in_none : (w : Write) → Contains [] w → ⊥
in_none w has = let h = has.1 in omega (arith, h)

-- what stands there, laid there again
again : (at n : ℕ) (image : List ℕ) → at + n ≤ length image → overlaid at (part at n image) image ≡ image
again at n image fits =
    let long : length (part at n image) ≡ n = length-take n (drop at image) ∙ (let e = length-drop at image in omega (arith, e, fits)) in
    ap (λ (m : ℕ). take at image ++ part at n image ++ drop (at + m) image) long ∙ append_assoc (take at image) (part at n image) (drop (at + n) image)
    ∙ ap (λ (ys : List ℕ). take at image ++ (part at n image ++ ys)) (sym (drop-drop n at image))
    ∙ ap (λ (ys : List ℕ). take at image ++ ys) (take-append-drop n (drop at image)) ∙ take-append-drop at image

-- the one write of a crash, done again or undone again
one_write : (image : List ℕ) (w : Write) → (overlaid w.at w.bytes image ≡ image) ⊎ (overlaid w.at w.before image ≡ image)
    → HasNoFalseRecord (record { image = image; in_flight = w ∷ [] })
one_write image w same x r has stands into = elim (Contains-push_cases [] w x has) [
  | inl none ↦ absurd (in_none x none)
  | inr is ↦ elim (subst (λ (y : Write). (overlaid y.at y.bytes image ≡ image) ⊎ (overlaid y.at y.before image ≡ image)) is same) [
    | inl done ↦ inl (ap (λ (bytes : List ℕ). own_sectors bytes r.head) (sym done))
    | inr undone ↦ inr (ap (λ (bytes : List ℕ). own_sectors bytes r.head) (sym undone))
  ]
]

pub rest_is_sound : RestIsSound
rest_is_sound image w r has stands into = absurd (in_none w has)

pub done_is_sound : DoneIsSound
done_is_sound at bytes image fits =
    let done : List ℕ = overlaid at bytes image in
    one_write done (write_over at bytes image)
    (inl (ap (λ (xs : List ℕ). overlaid at xs done) (sym (part-overlaid at (length bytes) bytes image (omega arith) fits))
    ∙ again at (length bytes) done (omega (arith, fits, length-overlaid at bytes image fits))))

pub undone_is_sound : UndoneIsSound
undone_is_sound at bytes image fits = one_write image (write_over at bytes image) (inr (again at (length bytes) image fits))

pub off_log_is_sound : OffLogIsSound
off_log_is_sound c long off w r has stands into =
    let log : length (log_of c.image) ≡ 2097152 = length-take-le 2097152 (drop 32768 c.image) (omega (arith, long, length-drop 32768 c.image)) in
    let within = ends_within (log_of c.image) r log stands in
    let begins = into.begins in
    let ends = into.ends in
    elim (off w has) [
      | inl before ↦ absurd (omega (arith, before, ends))
      | inr after ↦ absurd (omega (arith, after, begins, within))
    ]
