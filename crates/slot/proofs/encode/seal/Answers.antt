-- `seal` meets its contract: the row of writes fills all of the header, so none is refused, and the checksum goes into its four bytes.
use Rattle.std.proofs.Common.{◌≡◌, sym, ap, ap₂, ◌∙◌, ℕ, List, length, Some, Ok, rules, length-append}
use Rattle.std.specs.List.{concat}
use Rattle.std.specs.Int.{w32, to_le_bytes}
use Rattle.codec.specs.Crc32c.{crc32c}
use Rattle.codec.specs.Cursor.{Written, write_row}
use Rattle.codec.proofs.RowLaws.{row_whole}
use Rattle.slot.specs.Write.{header_row, header_bytes}
use Rattle.slot.proofs.encode.seal.Goals as goal
use Rattle.slot.proofs.encode.seal.Goals.{After-write_header}
use borrow.Rule.Slice.PartMut.{put_mid}

module _ (c : After-write_header) where
  abbrev row : List (List ℕ)
  row = header_row 0 c.args.f.now c.args.payload_len c.args.payload_crc32c

  wrote : write_row row c.args.header.now (record { pos = 0 }) ≡ (concat row, Some (record { pos = 128 }))
  wrote =
      let volume : length c.args.f.now.volume_uuid ≡ 16 = search rules in
      let size : length (concat row) ≡ 128 = simp (length-append, volume) in
      row_whole row c.args.header.now (c.requires ∙ sym size) ∙ ap (λ (n : ℕ). (concat row, Some (record { pos = n }))) size

  zeroed : c.write_header.new.header ≡ header_bytes 0 c.args.f.now c.args.payload_len c.args.payload_crc32c
  unfolding header_bytes
  zeroed = ap (λ (w : Written). w.0) (c.write_header.ensures ∙ wrote)

  done : c.write_header.result ≡ Some (record { pos = 128 })
  done = ap (λ (w : Written). w.1) (c.write_header.ensures ∙ wrote)

pub returns-in_default-clause-value : goal.returns-in_default-clause-value
returns-in_default-clause-value c = absurd (c.in_default.not-Some _ (done (goal.at.returns-in_default-clause-value c).After-write_header))

pub returns-in_default-clause-header_after : goal.returns-in_default-clause-header_after
returns-in_default-clause-header_after c = absurd (c.in_default.not-Some _ (done (goal.at.returns-in_default-clause-header_after c).After-write_header))

pub returns-clause-value : goal.returns-clause-value
returns-clause-value c = ap (λ (n : ℕ). Ok n) (c.crc32c-crc.ensures ∙ ap crc32c (zeroed (goal.at.returns-clause-value c).After-write_header))

pub returns-clause-header_after : goal.returns-clause-header_after
unfolding header_bytes
returns-clause-header_after c =
    let before = zeroed (goal.at.returns-clause-header_after c).After-write_header in
    let crc = c.crc32c-crc.ensures ∙ ap crc32c before in
    ap₂ (λ (o v : List ℕ). put_mid 8 4 o v) before (c.copy_from_slice.ensures.after ∙ c.to_le_bytes.ensures ∙ ap (to_le_bytes w32) crc)
