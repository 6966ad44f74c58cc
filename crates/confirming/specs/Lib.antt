pub mod Confirm
