-- The byte with which each item begins.
use Rattle.std.specs.Prelude.{ℕ, cond, Ok, Err, Result, ◌==◌}
use Rattle.format.specs.declared.width.Width.TheVariants.{W8, W16, W32, W64}
use Rattle.format.specs.declared.tags.Tag.{Tag}
use Rattle.format.specs.declared.tags.Tag.TheVariants.{Array, Object, ByteString, Int, Real, True, False, Null, Template, Skip, Utf8String}
use Rattle.format.specs.declared.tags.NoTag.{NoTag}

abbrev pub tag_of : ℕ → Result Tag NoTag
tag_of b =
    cond (b == 0x00) (Ok Array)
    (cond (b == 0x01) (Ok Object)
    (cond (b == 0x02) (Ok ByteString)
    (cond (b == 0x03) (Ok (Int W8))
    (cond (b == 0x04) (Ok (Int W16))
    (cond (b == 0x05) (Ok (Int W32))
    (cond (b == 0x06) (Ok (Int W64))
    (cond (b == 0x07) (Ok Real)
    (cond (b == 0x08) (Ok True)
    (cond (b == 0x09) (Ok False)
    (cond (b == 0x0a) (Ok Null)
    (cond (b == 0x0b) (Ok Template)
    (cond (b == 0x0c) (Ok Skip)
    (cond (b == 0x0d) (Ok Utf8String)
    (Err (record { 0 = b })))))))))))))))

abbrev pub byte_of : Tag → ℕ
byte_of Array = 0x00
byte_of Object = 0x01
byte_of ByteString = 0x02
byte_of (Int W8) = 0x03
byte_of (Int W16) = 0x04
byte_of (Int W32) = 0x05
byte_of (Int W64) = 0x06
byte_of Real = 0x07
byte_of True = 0x08
byte_of False = 0x09
byte_of Null = 0x0a
byte_of Template = 0x0b
byte_of Skip = 0x0c
byte_of Utf8String = 0x0d
