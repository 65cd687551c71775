pub mod Pcap
pub mod Text
