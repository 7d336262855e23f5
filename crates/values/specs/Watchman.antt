-- What another writer makes: encodings by pywatchman 4.9.0, as tools/make_watchman_sample has them.
use Rattle.std.specs.Prelude.{◌≡◌, [], ◌∷◌, pos, negsuc}
use Rattle.format.specs.declared.width.Width.TheVariants.{W8, W16, W32, W64}
use Rattle.values.specs.Values.{Value, Values, null, yes_value, no_value, integer, real, bytes, array, object, no_values, value, no_pairs, pair, encoding, events, array_begin, array_end, map_begin, map_end, key, an_integer, a_real, some_bytes, is_true, is_false, is_null, Formed}
use Rattle.values.specs.Examples.{named}

-- [1.5, True, False, None, 5, -129, 2 ** 20, -(2 ** 40), b"\xc0\x80", "ab", [], {"k": [7]}]
abbrev pub last_kinds : Values
last_kinds =
    value (bytes W8 (0xc0 ∷ 0x80 ∷ [])) (value (bytes W8 (0x61 ∷ 0x62 ∷ [])) (value (array W8 no_values)
    (value (object W8 (pair (named (0x6b ∷ [])) (array W8 (value (integer W8 (pos 7)) no_values)) no_pairs)) no_values)))

abbrev pub kinds : Value
kinds = array W8
    (value (real 4609434218613702656) (value yes_value (value no_value (value null
    (value (integer W8 (pos 5)) (value (integer W16 (negsuc 128)) (value (integer W32 (pos 1048576)) (value (integer W64 (negsuc 1099511627775))
    last_kinds))))))))

abbrev pub Watchman : Type 0
Watchman = record {
  kinds_bytes : encoding kinds ≡
      0x00 ∷ 0x03 ∷ 0x0c ∷ 0x07 ∷ 0x00 ∷ 0x00 ∷ 0x00 ∷ 0x00 ∷ 0x00 ∷ 0x00 ∷ 0xf8 ∷ 0x3f ∷ 0x08 ∷ 0x09 ∷ 0x0a
      ∷ 0x03 ∷ 0x05 ∷ 0x04 ∷ 0x7f ∷ 0xff ∷ 0x05 ∷ 0x00 ∷ 0x00 ∷ 0x10 ∷ 0x00
      ∷ 0x06 ∷ 0x00 ∷ 0x00 ∷ 0x00 ∷ 0x00 ∷ 0x00 ∷ 0xff ∷ 0xff ∷ 0xff
      ∷ 0x02 ∷ 0x03 ∷ 0x02 ∷ 0xc0 ∷ 0x80 ∷ 0x02 ∷ 0x03 ∷ 0x02 ∷ 0x61 ∷ 0x62 ∷ 0x00 ∷ 0x03 ∷ 0x00
      ∷ 0x01 ∷ 0x03 ∷ 0x01 ∷ 0x02 ∷ 0x03 ∷ 0x01 ∷ 0x6b ∷ 0x00 ∷ 0x03 ∷ 0x01 ∷ 0x03 ∷ 0x07 ∷ [];
  kinds_events : events kinds ≡
      array_begin ∷ a_real 4609434218613702656 ∷ is_true ∷ is_false ∷ is_null
      ∷ an_integer W8 (pos 5) ∷ an_integer W16 (negsuc 128) ∷ an_integer W32 (pos 1048576) ∷ an_integer W64 (negsuc 1099511627775)
      ∷ some_bytes (0xc0 ∷ 0x80 ∷ []) ∷ some_bytes (0x61 ∷ 0x62 ∷ []) ∷ array_begin ∷ array_end
      ∷ map_begin ∷ key (0x6b ∷ []) ∷ array_begin ∷ an_integer W8 (pos 7) ∷ array_end ∷ map_end ∷ array_end ∷ [];
  kinds_formed : Formed kinds;
}
