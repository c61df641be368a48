-- The slots of the store with their checksums as numbers, and how the pairs and the row of them are read.
use Rattle.std.proofs.Common.{◌≡◌, refl, ap₂, ◌∙◌, false, List, [], ◌∷◌, ℕ, lit<, Ok}
use Rattle.codec.specs.Bytes.{le}
use Rattle.codec.specs.Crc32c.{crc32c, final_remainder, remainder, digest, reversed}
use Rattle.slot.specs.Payload.{payload as payload_of}
use Rattle.slot.specs.Read.{is_slot_length, header_sum, passes_checksum, is_malformed, check, passes_payload}
use Rattle.slot.specs.Write.{header_bytes, header_crc, encode_check, encode}
use Rattle.slot.specs.Laws.{Fits}
use Rattle.slot.specs.declared.slot.SlotIndex.{SlotIndex}
use Rattle.slot.specs.declared.slot.Expect.{Expect}
use Rattle.judge.specs.Same.{Framed}
use Rattle.judge.specs.declared.records.SlotRead.{SlotRead}
use Rattle.judge.specs.declared.records.PairRead.{PairRead}
use Rattle.meta.specs.Volume.{volume_bytes}
use Rattle.meta.specs.Page.{header_bytes as page_header_bytes}
use Rattle.cut.specs.Store.{Decoder, Volume, Page, Pair, framed_pair, framed}
use Rattle.cut_examples.specs.Stores.{volume_record, page_record, fields, read_with, zeros_for}
use Rattle.cut_examples.specs.Computed.{blank_read}
use Rattle.cut_examples.proofs.Writes.{fields_fit, summed_slot, summed_is, blank_bytes}
use Rattle.cut_examples.proofs.SlotsRead.{slot_with, read_once, read_once_is, framed_read, framed_row}
use Rattle.creation_examples.specs.Stores.{blank_pair, volume_fields, page_0_fields, page_1_fields, volume_pair, page_0_pair, page_1_pair, blank_store, page_1_store, pages_store, made_store}
use Rattle.creation_examples.specs.States.{row, volume_read, page_0_read, page_1_read}

-- ---- as they are written

pub volume_fits : Fits volume_fields
volume_fits = fields_fit 9 0 SlotIndex.A 1 0 2 (lit< tt) (lit< tt) (lit< tt) (lit< tt) (lit< tt) (lit< tt)

pub page_0_fits : Fits page_0_fields
page_0_fits = fields_fit 9 1 SlotIndex.A 1 0 1 (lit< tt) (lit< tt) (lit< tt) (lit< tt) (lit< tt) (lit< tt)

pub page_1_fits : Fits page_1_fields
page_1_fits = fields_fit 9 2 SlotIndex.A 1 0 1 (lit< tt) (lit< tt) (lit< tt) (lit< tt) (lit< tt) (lit< tt)

abbrev pub volume_slot : List ℕ
volume_slot = summed_slot 0x5bfe_0d29 0x69eb_46ec volume_fields (volume_record false)

abbrev pub page_0_slot : List ℕ
page_0_slot = summed_slot 0x1e65_e029 0xb3b8_1b53 page_0_fields (page_record 0 1)

abbrev pub page_1_slot : List ℕ
page_1_slot = summed_slot 0x57c1_8baa 0x3eb4_2e60 page_1_fields (page_record 1 0)

header_sums : (header_crc volume_fields (volume_record false) ≡ 0x5bfe_0d29) × (header_crc page_0_fields (page_record 0 1) ≡ 0x1e65_e029)
    × (header_crc page_1_fields (page_record 1 0) ≡ 0x57c1_8baa)
unfolding header_crc header_bytes volume_bytes page_header_bytes crc32c final_remainder remainder digest reversed
header_sums = (refl, refl, refl)

payload_sums : (crc32c (volume_record false) ≡ 0x69eb_46ec) × (crc32c (page_record 0 1) ≡ 0xb3b8_1b53) × (crc32c (page_record 1 0) ≡ 0x3eb4_2e60)
unfolding volume_bytes page_header_bytes crc32c final_remainder remainder digest reversed
payload_sums = (refl, refl, refl)

none_refused : (encode_check volume_fields (volume_record false) 512 ≡ Ok tt) × (encode_check page_0_fields (page_record 0 1) 512 ≡ Ok tt)
    × (encode_check page_1_fields (page_record 1 0) 512 ≡ Ok tt)
unfolding encode_check volume_bytes page_header_bytes
none_refused = (refl, refl, refl)

pub volume_slot_is : (encode volume_fields (volume_record false) (zeros_for volume_fields)).0 ≡ volume_slot
volume_slot_is = summed_is volume_fields (volume_record false) 0x5bfe_0d29 0x69eb_46ec none_refused.0 header_sums.0 payload_sums.0

pub page_0_slot_is : (encode page_0_fields (page_record 0 1) (zeros_for page_0_fields)).0 ≡ page_0_slot
page_0_slot_is = summed_is page_0_fields (page_record 0 1) 0x1e65_e029 0xb3b8_1b53 none_refused.1 header_sums.1 payload_sums.1

pub page_1_slot_is : (encode page_1_fields (page_record 1 0) (zeros_for page_1_fields)).0 ≡ page_1_slot
page_1_slot_is = summed_is page_1_fields (page_record 1 0) 0x57c1_8baa 0x3eb4_2e60 none_refused.2 header_sums.2 payload_sums.2

-- ---- as they are read

pub blank_once : (e : Expect) → e.log2_slot_size ≡ 9 → read_once blank_bytes e ≡ blank_read
unfolding is_slot_length
blank_once e size = rw size refl

pub slots_read : (read_once volume_slot (read_with volume_fields) ≡ volume_read) × (read_once page_0_slot (read_with page_0_fields) ≡ page_0_read)
    × (read_once page_1_slot (read_with page_1_fields) ≡ page_1_read)
unfolding is_slot_length check passes_checksum is_malformed passes_payload payload_of header_sum header_bytes volume_bytes page_header_bytes le crc32c final_remainder remainder digest reversed
slots_read = (refl, refl, refl)

-- The frame of p is the one that is filled from x.
pub record ReadAs (p : Pair) (x : PairRead) : Type 0 where
  pub framed_is : framed_pair p ≡ framed_read x

-- A pair whose slot A holds s, which is read as x, and whose slot B is Blank,
pub pair_read_as : (object : ℕ) (decoder : Decoder) (operator : ℕ) (s : List ℕ) (x : SlotRead)
    → read_once s (read_with (fields 9 object SlotIndex.A 0 0 0)) ≡ x
    → ReadAs (record (blank_pair object decoder operator) { a = slot_with s (read_with (fields 9 object SlotIndex.A 0 0 0)) })
    (record { a = x; b = blank_read; operator = operator })
pair_read_as object decoder operator s x is =
    let a = read_with (fields 9 object SlotIndex.A 0 0 0) in
    let b = read_with (fields 9 object SlotIndex.B 0 0 0) in
    record {
      framed_is =
          ap₂ {C = Framed} (λ (s t : SlotRead). framed_read (record { a = s; b = t; operator = operator }))
          (read_once_is s a ∙ is)
          (read_once_is blank_bytes b ∙ blank_once b refl);
    }

-- where it was not written,
pub blank_read_as : (object : ℕ) (decoder : Decoder) (operator : ℕ)
    → ReadAs (blank_pair object decoder operator) (record { a = blank_read; b = blank_read; operator = operator })
blank_read_as object decoder operator =
    pair_read_as object decoder operator blank_bytes blank_read (blank_once (read_with (fields 9 object SlotIndex.A 0 0 0)) refl)

-- and where its first write is finished.
pub page_0_read_as : ReadAs page_0_pair (record { a = page_0_read; b = blank_read; operator = 0 })
page_0_read_as = rw page_0_slot_is (pair_read_as 1 (Page 0 41) 0 page_0_slot page_0_read slots_read.1)

pub page_1_read_as : ReadAs page_1_pair (record { a = page_1_read; b = blank_read; operator = 1 })
page_1_read_as = rw page_1_slot_is (pair_read_as 2 (Page 1 41) 1 page_1_slot page_1_read slots_read.2)

volume_read_as : ReadAs volume_pair (record { a = volume_read; b = blank_read; operator = 0 })
volume_read_as = rw volume_slot_is (pair_read_as 0 Volume 0 volume_slot volume_read slots_read.0)

-- The row of three.
pub row_framed : {p q u : Pair} {x y z : SlotRead}
    → ReadAs p (record { a = x; b = blank_read; operator = 0 })
    → ReadAs q (record { a = y; b = blank_read; operator = 0 })
    → ReadAs u (record { a = z; b = blank_read; operator = 1 })
    → framed (p ∷ q ∷ u ∷ []) ≡ framed_row (row x y z)
row_framed p_is q_is u_is = rw (p_is.framed_is, q_is.framed_is, u_is.framed_is) refl

pub blank_row : framed blank_store ≡ framed_row (row blank_read blank_read blank_read)
blank_row = row_framed (blank_read_as 0 Volume 0) (blank_read_as 1 (Page 0 41) 0) (blank_read_as 2 (Page 1 41) 1)

pub page_1_row : framed page_1_store ≡ framed_row (row blank_read blank_read page_1_read)
page_1_row = row_framed (blank_read_as 0 Volume 0) (blank_read_as 1 (Page 0 41) 0) page_1_read_as

pub pages_row : framed pages_store ≡ framed_row (row blank_read page_0_read page_1_read)
pages_row = row_framed (blank_read_as 0 Volume 0) page_0_read_as page_1_read_as

pub made_row : framed made_store ≡ framed_row (row volume_read page_0_read page_1_read)
made_row = row_framed volume_read_as page_0_read_as page_1_read_as
