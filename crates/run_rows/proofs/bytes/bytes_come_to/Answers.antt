use Rattle.run_rows.proofs.BytesRows.{bytes_within_range_row, byte_of_256_row, byte_of_300_row, byte_below_zero_row, inc_above_byte_row, inc_of_byte_overflows_row, dec_below_byte_row, byte_argument_of_256_row, byte_result_of_256_row, chr_of_256_row}
use Rattle.run_rows.proofs.bytes.bytes_come_to.Goals as goal

pub returns-clause-bytes_within_range : goal.returns-clause-bytes_within_range
returns-clause-bytes_within_range c = bytes_within_range_row

pub returns-clause-byte_of_256 : goal.returns-clause-byte_of_256
returns-clause-byte_of_256 c = byte_of_256_row

pub returns-clause-byte_of_300 : goal.returns-clause-byte_of_300
returns-clause-byte_of_300 c = byte_of_300_row

pub returns-clause-byte_below_zero : goal.returns-clause-byte_below_zero
returns-clause-byte_below_zero c = byte_below_zero_row

pub returns-clause-inc_above_byte : goal.returns-clause-inc_above_byte
returns-clause-inc_above_byte c = inc_above_byte_row

pub returns-clause-inc_of_byte_overflows : goal.returns-clause-inc_of_byte_overflows
returns-clause-inc_of_byte_overflows c = inc_of_byte_overflows_row

pub returns-clause-dec_below_byte : goal.returns-clause-dec_below_byte
returns-clause-dec_below_byte c = dec_below_byte_row

pub returns-clause-byte_argument_of_256 : goal.returns-clause-byte_argument_of_256
returns-clause-byte_argument_of_256 c = byte_argument_of_256_row

pub returns-clause-byte_result_of_256 : goal.returns-clause-byte_result_of_256
returns-clause-byte_result_of_256 c = byte_result_of_256_row

pub returns-clause-chr_of_256 : goal.returns-clause-chr_of_256
returns-clause-chr_of_256 c = chr_of_256_row
