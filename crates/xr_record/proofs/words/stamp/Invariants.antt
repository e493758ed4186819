use Rattle.std.proofs.Common.{◌≡◌, ◌*◌, ◌-◌, ◌++◌, length, take, drop}
use Rattle.byteorder.specs.Endian.{big_bytes}
use Rattle.xr_record.specs.Record.{moved, stamped}
use Rattle.xr_record.proofs.words.stamp.Given as goal

abbrev pub invariant-loop-i : goal.invariant-loop-i
invariant-loop-i l = record {
  len : length l.body ≡ length l.initial.body;
  body : take (512 * l.i) l.body ++ stamped (big_bytes 4 l.cycle) (l.sectors - l.i) (drop (512 * l.i) l.body)
      ≡ stamped (big_bytes 4 l.cycle) l.sectors l.initial.body;
  words : take (4 * l.i) l.words ++ moved (l.sectors - l.i) (drop (512 * l.i) l.body) ≡ moved l.sectors l.initial.body;
  rest : drop (4 * l.sectors) l.words ≡ drop (4 * l.sectors) l.initial.words;
}
