use Rattle.cj_report.proofs.encounters.push_heading.Goals as goal

pub returns : goal.returns
returns c =
    rw (
      c.as_bytes.ensures.value,
      c.format.ensures.text,
      c.as_bytes-2.ensures.value,
      c.format-2.ensures.text,
      c.from.ensures,
      c.as_bytes-3.ensures.value,
      c.format-3.ensures.text,
      c.from-2.ensures,
      c.mark_word.ensures,
      c.epoch_text.ensures.exact,
      c.as_bytes-4.ensures.value,
      c.format-4.ensures.text,
      c.message_word.ensures,
    ) at c.push_line.ensures
