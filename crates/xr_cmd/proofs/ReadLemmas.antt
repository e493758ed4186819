-- Reading bytes in many calls, each of which takes some of those that are left.
use Rattle.std.proofs.Common.{◌≡◌, ℕ, ◌+◌, ◌≤◌, Option, None, Some, List, ◌++◌, length, inr, sym, subst, ap, ◌∙◌, arith, append_assoc, length-append}
use Rattle.xr_disk.specs.Stream.{Took}
use Rattle.xr_cmd.specs.Streams.{StaysWithin}

-- these bytes, no more than asked for, were taken from the source
pub record HasRead {S : Type 0} (left : S → Option (List ℕ)) (faults : S → ℕ) (old new : S) (most : ℕ) (bytes : List ℕ) : Type 0 where
  pub taken : Took (left old) (left new) bytes
  pub bound : length bytes ≤ most
  pub counted : faults new ≡ faults old

took_more : (old mid new : Option (List ℕ)) (bytes more : List ℕ) → Took old mid bytes → Took mid new more → Took old new (bytes ++ more)
took_more None mid new bytes more first second = tt
took_more (Some all) mid new bytes more first second =
    let P : Option (List ℕ) → Type 0 = λ left. Took left new more in
    let then = subst P first.1 second in
    (then.0, then.1, first.2 ∙ ap (λ rest. bytes ++ rest) then.2 ∙ sym (append_assoc bytes more then.0))

-- some bytes were taken, and then some more
pub stays_within_more : (Failed : Type 0) (most : ℕ) (old mid new : Option (List ℕ)) (bytes more : List ℕ) → length bytes + length more ≤ most → Took old mid bytes → Took mid new more
    → StaysWithin Failed most old new
stays_within_more Failed most old mid new bytes more few first second =
    inr (bytes ++ more, omega (arith, length-append bytes more), took_more old mid new bytes more first second)
