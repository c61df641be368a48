-- The next write of a pair, planned and encoded (docs/FORMAT.md, "What a correct write is").
use Rattle.std.specs.Prelude.{List, ℕ, Option, Some, None, Result, Ok, Err}
use Rattle.slot.specs.Write.{encode}
use Rattle.slot.specs.declared.slot.EncodeError.{EncodeError}
use Rattle.slot.specs.declared.slot.Expect.{Expect}
use Rattle.slot.specs.declared.slot.SlotFields.{SlotFields}
use Rattle.judge.specs.Verdict.{by_index}
use Rattle.plan.specs.declared.error.PlanError.{PlanError}
use Rattle.plan.specs.declared.write.Plan.{Plan}
use Rattle.plan.specs.Plan.{plan_write}

-- The plan, in format 2, with the identity and the size that the slot is read with.
abbrev pub fields_of : Plan → Expect → ℕ → ℕ → SlotFields
fields_of plan e owner compat =
    record {
      volume_uuid = e.volume_uuid;
      object_id = e.object_id;
      generation = plan.generation;
      owner_generation = owner;
      slot_offset = e.slot_offset;
      slot_index = e.slot_index;
      log2_slot_size = e.log2_slot_size;
      prev_header_crc32c = plan.prev_header_crc32c;
      format_major = 2;
      meta_seq = plan.meta_seq;
      compat_flags = compat;
    }

-- The plan beside the header's checksum, or what `encode` refuses.
abbrev pub planned : Plan → Result ℕ EncodeError → Result (Option (Plan × ℕ)) PlanError
planned plan (Ok crc) = Ok (Some (plan, crc))
planned plan (Err error) = Err (PlanError.Encode error)

abbrev pub encoded : Plan → List ℕ × Result ℕ EncodeError → List ℕ × Result (Option (Plan × ℕ)) PlanError
encoded plan w = (w.0, planned plan w.1)

-- The buffer afterwards, and the answer. Where nothing is planned the buffer is kept.
abbrev pub write_by : Result (Option Plan) PlanError → Expect → Expect → ℕ → ℕ → List ℕ → List ℕ → List ℕ × Result (Option (Plan × ℕ)) PlanError
write_by (Err error) a b owner compat payload out = (out, Err error)
write_by (Ok None) a b owner compat payload out = (out, Ok None)
write_by (Ok (Some plan)) a b owner compat payload out = encoded plan (encode (fields_of plan (by_index plan.index a b) owner compat) payload out)

-- For the pair i, whose slots are read with a and b.
unfoldable pub next_write : List ℕ → ℕ → Expect → Expect → ℕ → ℕ → List ℕ → List ℕ → List ℕ × Result (Option (Plan × ℕ)) PlanError
next_write s i a b owner compat payload out = write_by (plan_write s i) a b owner compat payload out
