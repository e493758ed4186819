-- Putting bytes in many calls, each of which appends some of those that are left.
use Rattle.std.proofs.Common.{◌≡◌, ℕ, ◌+◌, Option, None, Some, List, ◌++◌, length, take, drop, sym, ap, ◌∙◌, arith, append_assoc, length-drop}
use Rattle.std.proofs.Math.Seq.{take-add}
use Rattle.xr_disk.specs.Stream.{AppendsFront}
use Rattle.xr_cmd.specs.Streams.{PutsFront}

-- the first n bytes went into the sink, and without a byte no call was made
pub record HasPut {O : Type 0} (held : O → Option (List ℕ)) (faults : O → ℕ) (old new : O) (n : ℕ) (bytes : List ℕ) : Type 0 where
  pub front : PutsFront (held old) (held new) n bytes
  pub counted : faults new ≡ faults old
  pub none : n ≡ 0 → new ≡ old

-- one more call, with the bytes that are left
pub puts_more :
    (old mid new : Option (List ℕ)) (n k : ℕ) (bytes rest : List ℕ)
    → PutsFront old mid n bytes → AppendsFront mid new k rest → rest ≡ drop n bytes → PutsFront old new (n + k) bytes
puts_more None mid new n k bytes rest puts appends dropped = record {
  fits = omega (arith, appends.fits, puts.fits, length-drop n bytes, ap length dropped);
  appended = tt;
}
puts_more (Some held) mid new n k bytes rest puts appends dropped =
    let more : take n bytes ++ take k rest ≡ take (n + k) bytes = ap (λ left. take n bytes ++ take k left) dropped ∙ sym (take-add n k bytes) in
    record {
      fits = omega (arith, appends.fits, puts.fits, length-drop n bytes, ap length dropped);
      appended =
          (rw puts.appended at appends.appended)
          ∙ ap (λ all. Some all) (append_assoc held (take n bytes) (take k rest) ∙ ap (λ text. held ++ text) more);
    }
