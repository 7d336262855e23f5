-- What holds of what comes by each kind of tag holds of what comes by any tag.
use Rattle.std.proofs.Common.{ℕ, Bool, true, false, cond, ◌==◌}
use Rattle.format.specs.declared.width.Width.{Width}
use Rattle.format.specs.declared.width.Width.TheVariants.{W8, W16, W32, W64}
use Rattle.bunser.specs.declared.text.TextKind.{TextKind}
use Rattle.bunser.specs.declared.text.TextKind.TheVariants as kind
use Rattle.de.specs.declared.event.Event.TheVariants as event
use Rattle.de.specs.Steps.{Body, Coming, int_comes, real_comes, text_comes, tag_comes, array_comes, object_comes, template_comes, no_item, gap_comes, tagged}

module _ (lends : Bool) (b : Body) (t : ℕ) (P : Coming → Type 0) where
  either : {x y : Coming} (q : Bool) → P x → P y → P (cond q x y)
  either true h k = h
  either false h k = k

  pub by_tag : P (array_comes lends b) → P (object_comes lends b) → P (template_comes lends b) → ((k : TextKind) → P (text_comes lends k b)) → ((w : Width) → P (int_comes lends w b)) → P (real_comes lends b) →
      P (tag_comes lends event.True b) → P (tag_comes lends event.False b) → P (tag_comes lends event.Null b) → P (tag_comes lends event.Absent b) → P (no_item t b) → (gap : Bool) → P (tagged lends gap t b)
  unfolding tagged
  by_tag array object template text int real truth untruth null absent none gap =
      either (t == 0x00) array
      (either (t == 0x01) object
      (either (t == 0x02) (text kind.Bytes)
      (either (t == 0x03) (int W8)
      (either (t == 0x04) (int W16)
      (either (t == 0x05) (int W32)
      (either (t == 0x06) (int W64)
      (either (t == 0x07) real
      (either (t == 0x08) truth
      (either (t == 0x09) untruth
      (either (t == 0x0a) null
      (either (t == 0x0b) template
      (either (t == 0x0c) (gapped gap)
      (either (t == 0x0d) (text kind.Text) none)))))))))))))
    where
      gapped : (gap : Bool) → P (gap_comes lends gap t b)
      gapped true = absent
      gapped false = none
